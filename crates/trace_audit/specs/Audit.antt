-- What `audit` writes, memory and failures of the streams aside.
use Rattle.std.specs.Prelude.{◌≡◌, ℕ, List, [], ◌∷◌, ◌++◌, map, All, Option}
use Rattle.answer_json.specs.Lines.{json_line}
use Rattle.trace_audit.specs.Answers.{Answer, answer_to}
use Rattle.trace_audit.specs.Groups.{Group, groups_of}
use Rattle.trace_audit.specs.Lines.{line_text}
use Rattle.trace_audit.specs.Lookups.{Found, IsFound, TextValue}
use Rattle.trace_audit.specs.Values.{denial_object}
use Rattle.trace_report.specs.Output.{Output, whole_answer}
use Rattle.trace_report.specs.Streams.{Streams, EndsInOne, IsTextOf}
use Rattle.trace_report.specs.declared.format.Format.{Format}
use Rattle.trace_report.specs.declared.format.Format.TheVariants.{Text, Json}
use Rattle.trace_report.specs.declared.status.Status.{Status}

-- a denial and what is reported about it, in either format
abbrev pub line_in : Format → Group → Answer → List ℕ
line_in Text group answer = line_text group answer
line_in Json group answer = json_line (denial_object group answer)

-- a line for each denial, by what its profile's name leads to
abbrev pub AreLines : Format → List TextValue → List Group → List ℕ → Type 0
AreLines format texts [] lines = lines ≡ []
AreLines format texts (group ∷ groups) lines =
    (to : Found) × IsFound texts group.denial.profile group.denial.by_owner to
    × ((others : List ℕ) × AreLines format texts groups others
    × (lines ≡ line_in format group (answer_to to group.denial) ++ others))

-- what `audit` may write on a log, given these texts
abbrev pub IsAuditOutput : Format → List TextValue → List ℕ → Output → Type 0
IsAuditOutput format texts log output = (lines : List ℕ) × AreLines format texts (groups_of log) lines × (output ≡ whole_answer lines)

-- the texts have these names, and are what is known under them
pub record AreTexts (known : List ℕ → Option (List ℕ)) (names : List (List ℕ)) (texts : List TextValue) : Type 0 where
  pub named : map (λ t. t.name) texts ≡ names
  pub are : All (λ t. IsTextOf (known t.name) t.text) texts

-- How `audit` ends, over a reader that has these bytes left, where they are known.
pub record AuditEnds (format : Format) (known : List ℕ → Option (List ℕ)) (names : List (List ℕ)) (left : Option (List ℕ))
    (streams : Streams) (status : Status) : Type 0 where
  pub texts : List TextValue
  pub are_texts : AreTexts known names texts
  pub log : List ℕ
  pub is_log : IsTextOf left log
  pub ends : EndsInOne streams (IsAuditOutput format texts log) status
