-- What `import --all` writes, memory and failures of the streams aside: each profile of a text as a `policy` of a script, which `run`
-- and `test` take (our own).
use Rattle.std.specs.Prelude.{◌≡◌, ℕ, List, [], ◌∷◌, ◌++◌, codes, map, Option, Result, Ok, Err}
use Rattle.std.specs.List.{flat_map}
use Rattle.apparmor_rules.specs.ShownTexts.{shown_byte}
use Rattle.apparmor_rules.specs.declared.subject.Subject.{Subject}
use Rattle.import_profile.specs.declared.options.ImportOptions.{ImportOptions}
use Rattle.import_profile.specs.AllImports.{AllOutcome, ImportsAll}
use Rattle.import_profile.specs.Imports.{ImportValue}
use Rattle.rule_writer.specs.Canonical.{canonical}
use Rattle.trace_import.specs.Accounts.{account_text}
use Rattle.trace_import.specs.Import.{refusal_of}
use Rattle.trace_import.specs.declared.account.AccountChoice.{AccountChoice}
use Rattle.trace_report.specs.Output.{Output, fault}
use Rattle.trace_report.specs.Streams.{Streams, EndsInOne, IsTextOf}
use Rattle.trace_report.specs.declared.status.Status.{Status}
use Rattle.trace_report.specs.declared.status.Status.TheVariants.{Done, Refused}

-- the command of a script that publishes a profile
abbrev pub policy_text : ImportValue → List ℕ
policy_text value = codes "policy\n" ++ (canonical value.profile ++ codes ".\n")

-- an account that isn't empty, after a line with the profile's name
abbrev pub headed : List ℕ → List ℕ → List ℕ
headed name [] = []
headed name (b ∷ account) = codes "profile " ++ (map shown_byte name ++ (codes ":\n" ++ b ∷ account))

abbrev pub headed_account : AccountChoice → Subject → List ℕ → ImportValue → List ℕ
headed_account account chosen text value = headed value.profile.name (account_text account chosen text value)

-- each profile, and each account; or why there are none
abbrev pub all_output : AccountChoice → Subject → List ℕ → AllOutcome → Output
all_output account chosen text (Ok values) =
    record { answers = flat_map policy_text values; faults = flat_map (headed_account account chosen text) values; status = Done }
all_output account chosen text (Err f) = fault (refusal_of text f) Refused

abbrev pub IsAllOutput : AccountChoice → ImportOptions → List ℕ → Output → Type 0
IsAllOutput account options text output =
    (outcome : AllOutcome) × ImportsAll options text outcome × (output ≡ all_output account options.subject text outcome)

-- How `import --all` ends over a reader that has these bytes left, where they are known.
pub record ImportAllEndsOver (account : AccountChoice) (options : ImportOptions) (left : Option (List ℕ)) (streams : Streams)
    (status : Status) : Type 0 where
  pub text : List ℕ
  pub is_text : IsTextOf left text
  pub ends : EndsInOne streams (IsAllOutput account options text) status
