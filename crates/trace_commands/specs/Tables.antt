-- What `compile`, `check` and `match` write, memory and failures of the streams aside.
use Rattle.std.specs.Prelude.{◌≡◌, ◌⊎◌, ◌↔◌, ◌≤◌, ◌==◌, ℕ, zero, suc, List, [], ◌++◌, Result, Ok, Err, Some, codes, decimal, length}
use Rattle.std.specs.Prelude.{Option, None, if◌then◌else◌}
use Rattle.answer_json.specs.Lines.{json_line}
use Rattle.answer_json.specs.Values.{match_object}
use Rattle.glob_automaton.specs.Automata.{most_sets}
use Rattle.names.specs.Records.{IsTold}
use Rattle.glob_automaton.specs.Sets.{AreMoreThan}
use Rattle.matcher.specs.declared.fault.MakeFault.TheVariants.{TooManyStates}
use Rattle.names.specs.declared.record.Record.{Record}
use Rattle.table_verifier.specs.AcceptedImages.{IsLoaded, IsLoadFault}
use Rattle.matcher.specs.TableVerdicts.{IsTableOfRules}
use Rattle.names.specs.declared.permissions.Perms.{Perms}
use Rattle.rule_profile.specs.Profile.{ProfileValue}
use Rattle.rule_reader.specs.ReadText.{outcome_of}
use Rattle.names.specs.VerdictText.{verdict_text}
use Rattle.rule_reader.specs.declared.fault.ReadFault.{ReadFault}
use Rattle.names.specs.declared.verdict.Verdict.{Verdict}
use Rattle.tables.specs.Bounds.{InBounds}
use Rattle.tables.specs.Tables.{Table, state_count, cell_count, record_count, look_ups_after, record_after}
use Rattle.tables.specs.Images.{FitsVersion1, IsVersionOf, IsWhole}
use Rattle.tables.specs.declared.fault.ImageFault.{ImageFault}
use Rattle.tables.specs.declared.header.Version.{Version}
use Rattle.tables.specs.declared.header.Version.TheVariants.{First, Second}
use Rattle.trace_report.specs.declared.fault.Fault.{Fault}
use Rattle.trace_report.specs.declared.fault.Fault.TheVariants.{Memory}
use Rattle.trace_report.specs.ReadStreams.{ask_of}
use Rattle.trace_report.specs.Output.{Output, compile_refusal, fault, image_refusal, line, refusal, whole_answer}
use Rattle.trace_report.specs.declared.format.Format.{Format}
use Rattle.trace_report.specs.declared.format.Format.TheVariants.{Text, Json}
use Rattle.trace_report.specs.declared.status.Status.TheVariants.{BadArguments, Refused}

-- The version of the image that is written where states may have this depth. Without depths it is the first one, if that can hold
-- the table: it can if append has the hits of write in each record.
abbrev pub IsVersionAsked : ℕ → Table → Version → Type 0
IsVersionAsked zero t v = (v ≡ First) ↔ FitsVersion1 t
IsVersionAsked (suc depth) t v = v ≡ Second

-- The image of a table of the rules, which is in bounds: in the version for the depth that is asked for, and with no state of a
-- greater depth. How the table is laid out is left open.
pub record IsImageOutput (depth : ℕ) (profile : ProfileValue) (output : Output) : Type 0 where
  pub table : Table
  pub of_rules : IsTableOfRules profile.rules table
  pub bounds : InBounds table
  pub depth_asked : table.depth_bound ≤ depth
  pub version : Version
  pub version_asked : IsVersionAsked depth table version
  pub bytes : List ℕ
  pub image : IsVersionOf version bytes table
  pub is : output ≡ whole_answer bytes

-- what is written for a profile that was read, or for a text that is refused
abbrev pub IsCompileOutputOf : ℕ → Result ProfileValue ReadFault → Output → Type 0
IsCompileOutputOf depth (Err f) output = output ≡ fault (refusal f) Refused
IsCompileOutputOf depth (Ok profile) output =
    (AreMoreThan most_sets profile.rules × (output ≡ fault (compile_refusal TooManyStates) Refused))
    ⊎ (¬ (AreMoreThan most_sets profile.rules) × IsImageOutput depth profile output)

-- what `compile --depth N` may write on a text
abbrev pub IsCompileOutput : ℕ → List ℕ → Output → Type 0
IsCompileOutput depth text output = IsCompileOutputOf depth (outcome_of text) output

-- what is written for an image that is refused: its first fault
abbrev pub IsImageRefused : List ℕ → Output → Type 0
IsImageRefused image output = (f : ImageFault) × IsLoadFault image f × (output ≡ fault (image_refusal f) Refused)

-- running out of memory hides the outcome for an image only where its bytes have none of the header's faults
abbrev pub IsMemoryOfWhole : List ℕ → Fault → Type 0
IsMemoryOfWhole image f = f ≡ Memory → IsWhole image

-- ` depth D`, the bound of depths, where states may have one
abbrev pub depth_text : Table → List ℕ
depth_text t = if t.depth_bound == 0 then [] else codes " depth " ++ decimal t.depth_bound

-- `ok states N cells M accepts K`, and the bound of depths
abbrev pub counts_text : Table → List ℕ
counts_text t = codes "ok states " ++ decimal (state_count t) ++ codes " cells " ++ decimal (cell_count t)
    ++ codes " accepts " ++ decimal (record_count t) ++ depth_text t

-- what `check` writes on an image
abbrev pub IsCheckOutput : List ℕ → Output → Type 0
IsCheckOutput image output =
    ((t : Table) × IsLoaded image t × (output ≡ whole_answer (line (counts_text t)))) ⊎ IsImageRefused image output

-- the verdict, and then how many steps there were: one for each byte of the name
abbrev pub steps_text : List ℕ → Verdict → List ℕ
steps_text name verdict = verdict_text verdict ++ (codes "\nsteps " ++ (decimal (length name) ++ codes "\n"))

-- where states may have a depth, how many cells were looked up
abbrev pub look_ups_text : Table → List ℕ → List ℕ
look_ups_text t name =
    if t.depth_bound == 0 then [] else codes "lookups " ++ (decimal (look_ups_after t name) ++ codes "\n")

-- both
abbrev pub match_text : Table → List ℕ → Verdict → List ℕ
match_text t name verdict = steps_text name verdict ++ look_ups_text t name

-- how many cells were looked up, where states may have a depth
abbrev pub look_ups_of : Table → List ℕ → Option ℕ
look_ups_of t name = if t.depth_bound == 0 then None else Some (look_ups_after t name)

-- the verdict and the numbers, in either format
abbrev pub match_lines : Format → Table → List ℕ → Verdict → List ℕ
match_lines Text t name verdict = match_text t name verdict
match_lines Json t name verdict = json_line (match_object verdict (length name) (look_ups_of t name))

-- the verdict by the record of the name in the table
abbrev pub IsVerdictOf : Table → List ℕ → Perms → Verdict → Type 0
IsVerdictOf t name ask verdict = (r : Record) × (record_after t name ≡ Some r) × IsTold r ask verdict

-- what is written for a name by an image
abbrev pub IsMatchedOutput : Format → Perms → List ℕ → List ℕ → Output → Type 0
IsMatchedOutput format ask name image output =
    ((t : Table) × IsLoaded image t × (verdict : Verdict) × IsVerdictOf t name ask verdict
    × (output ≡ whole_answer (match_lines format t name verdict)))
    ⊎ IsImageRefused image output

-- the same, for the permissions asked for or the message about the arguments
abbrev pub IsMatchOutputOf : Format → Result Perms (List ℕ) → List ℕ → List ℕ → Output → Type 0
IsMatchOutputOf format (Err told) name image output = output ≡ fault told BadArguments
IsMatchOutputOf format (Ok ask) name image output = IsMatchedOutput format ask name image output

-- what `match PERMS NAME` writes on an image, in either format
abbrev pub IsMatchOutput : Format → List ℕ → List ℕ → List ℕ → Output → Type 0
IsMatchOutput format perms name image output = IsMatchOutputOf format (ask_of perms name) name image output
