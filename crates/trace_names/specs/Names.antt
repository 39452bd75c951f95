-- What `names PERMS PROFILE` writes, memory and failures of the streams aside.
use Rattle.std.specs.Prelude.{◌≡◌, ◌⊎◌, ℕ, List, [], ◌∷◌, ◌++◌, filter, Option, Some, None, Result, Ok, Err, codes, if◌then◌else◌}
use Rattle.std.specs.List.{flat_map}
use Rattle.glob_automaton.specs.Automata.{most_sets}
use Rattle.glob_automaton.specs.Sets.{AreMoreThan}
use Rattle.matcher.specs.declared.fault.MakeFault.TheVariants.{TooManyStates}
use Rattle.names.specs.VerdictText.{verdict_text}
use Rattle.names.specs.declared.permissions.Perms.{Perms}
use Rattle.names.specs.declared.verdict.Verdict.{Verdict}
use Rattle.rule_globs.specs.PlainVerdict.{verdict}
use Rattle.rule_profile.specs.Profile.{ProfileValue, RuleValue}
use Rattle.rule_reader.specs.ReadText.{outcome_of}
use Rattle.rule_reader.specs.declared.fault.ReadFault.{ReadFault}
use Rattle.trace_names.specs.Choices.{end_byte, is_selected}
use Rattle.trace_names.specs.NameLists.{names_of}
use Rattle.trace_names.specs.declared.choice.NamesChoice.{NamesChoice}
use Rattle.trace_names.specs.declared.choice.Selection.{Selection}
use Rattle.trace_report.specs.Output.{Output, compile_refusal, fault, refusal, whole_answer}
use Rattle.trace_report.specs.ReadStreams.{asked_by}
use Rattle.trace_report.specs.declared.status.Status.TheVariants.{BadArguments, Refused}

-- the names that are written: those whose verdict by the rules is one that is chosen. A name that doesn't begin with a slash is
-- matched by no rule, so it isn't allowed.
abbrev pub selected : Selection → List RuleValue → Perms → List (List ℕ) → List (List ℕ)
selected selection rules ask names = filter (λ name. is_selected selection (verdict rules name ask)) names

-- `: ` and the verdict
abbrev pub after_name : Verdict → List ℕ
after_name v = codes ": " ++ verdict_text v

-- a name with its end, and with `: VERDICT` before that, if verdicts are asked for
abbrev pub name_text : NamesChoice → List ℕ → Verdict → List ℕ
name_text choice name v = name ++ (if choice.verdicts then after_name v else []) ++ end_byte choice.end ∷ []

-- what is written of the names of a list
abbrev pub names_text : NamesChoice → List RuleValue → Perms → List ℕ → List ℕ
names_text choice rules ask list = flat_map (λ name. name_text choice name (verdict rules name ask))
    (selected choice.selection rules ask (names_of (end_byte choice.end) list))

-- by a profile that was read, or for a text that is refused
abbrev pub IsNamesOutputOf : NamesChoice → Perms → List ℕ → Result ProfileValue ReadFault → Output → Type 0
IsNamesOutputOf choice ask list (Err f) output = output ≡ fault (refusal f) Refused
IsNamesOutputOf choice ask list (Ok profile) output =
    (AreMoreThan most_sets profile.rules × (output ≡ fault (compile_refusal TooManyStates) Refused))
    ⊎ (¬ (AreMoreThan most_sets profile.rules) × (output ≡ whole_answer (names_text choice profile.rules ask list)))

-- for the permissions asked for
abbrev pub IsNamesOutputFor : NamesChoice → Option Perms → List ℕ → List ℕ → Output → Type 0
IsNamesOutputFor choice None text list output = output ≡ fault (codes "bad permissions") BadArguments
IsNamesOutputFor choice (Some ask) text list output = IsNamesOutputOf choice ask list (outcome_of text) output

-- what `names PERMS` may write on the text of a profile and a list
abbrev pub IsNamesOutput : NamesChoice → List ℕ → List ℕ → List ℕ → Output → Type 0
IsNamesOutput choice perms text list output = IsNamesOutputFor choice (asked_by perms) text list output

-- no name is judged by it: the text is refused, or its rules have too many states
abbrev pub IsRefusedOutcome : Result ProfileValue ReadFault → Type 0
IsRefusedOutcome (Err f) = Unit {0}
IsRefusedOutcome (Ok profile) = AreMoreThan most_sets profile.rules

-- a text by which no name is judged, whatever the list
abbrev pub IsRefusedText : List ℕ → Type 0
IsRefusedText text = IsRefusedOutcome (outcome_of text)
