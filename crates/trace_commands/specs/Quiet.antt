-- What `judge --quiet` and `match --quiet` leave: nothing on standard output, and a status that says whether the name is allowed, as
-- of grep(1), "EXIT STATUS", with -q.
use Rattle.std.specs.Prelude.{◌≡◌, ◌⊎◌, ℕ, Bool, true, false, List, [], Result, Ok, Err}
use Rattle.names.specs.declared.permissions.Perms.{Perms}
use Rattle.names.specs.declared.verdict.Verdict.{Verdict}
use Rattle.names.specs.declared.verdict.Verdict.TheVariants.{Allowed, Denied, NoRule}
use Rattle.rule_globs.specs.PlainVerdict.{verdict}
use Rattle.rule_profile.specs.Profile.{ProfileValue}
use Rattle.rule_reader.specs.ReadText.{outcome_of}
use Rattle.rule_reader.specs.declared.fault.ReadFault.{ReadFault}
use Rattle.table_verifier.specs.AcceptedImages.{IsLoaded}
use Rattle.tables.specs.Tables.{Table}
use Rattle.trace_report.specs.ReadStreams.{ask_of}
use Rattle.trace_commands.specs.Tables.{IsImageRefused, IsVerdictOf}
use Rattle.trace_report.specs.Output.{Output, fault, finding, refusal}
use Rattle.trace_report.specs.declared.status.Status.TheVariants.{BadArguments, Refused}

abbrev pub is_refused : Verdict → Bool
is_refused Allowed = false
is_refused (Denied rule) = true
is_refused (NoRule missing) = true

-- nothing is written, and the status is that something was found exactly if the name is refused
abbrev pub quiet_output : Verdict → Output
quiet_output verdict = finding [] (is_refused verdict)

-- the verdict by the profile that was read, or why there is none
abbrev pub quiet_verdict_output : Perms → List ℕ → Result ProfileValue ReadFault → Output
quiet_verdict_output ask name (Ok profile) = quiet_output (verdict profile.rules name ask)
quiet_verdict_output ask name (Err f) = fault (refusal f) Refused

-- what `judge --quiet PERMS NAME` leaves on a text
abbrev pub quiet_judge_output : List ℕ → List ℕ → List ℕ → Output
quiet_judge_output perms name text = elim (ask_of perms name) [
  | Err told ↦ fault told BadArguments
  | Ok ask ↦ quiet_verdict_output ask name (outcome_of text)
]

-- the verdict on a name by an image, or the first fault of the image
abbrev pub IsQuietlyMatched : Perms → List ℕ → List ℕ → Output → Type 0
IsQuietlyMatched ask name image output =
    ((t : Table) × IsLoaded image t × (verdict : Verdict) × IsVerdictOf t name ask verdict × (output ≡ quiet_output verdict))
    ⊎ IsImageRefused image output

-- the same, for the permissions asked for or the message about the arguments
abbrev pub IsQuietMatchOutputOf : Result Perms (List ℕ) → List ℕ → List ℕ → Output → Type 0
IsQuietMatchOutputOf (Err told) name image output = output ≡ fault told BadArguments
IsQuietMatchOutputOf (Ok ask) name image output = IsQuietlyMatched ask name image output

-- what `match --quiet PERMS NAME` leaves on an image
abbrev pub IsQuietMatchOutput : List ℕ → List ℕ → List ℕ → Output → Type 0
IsQuietMatchOutput perms name image output = IsQuietMatchOutputOf (ask_of perms name) name image output
