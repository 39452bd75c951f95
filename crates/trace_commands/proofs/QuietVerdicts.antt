-- What the status of a quiet `judge` says.
use Rattle.std.proofs.Common.{◌≡◌, ◌≢◌, ℕ, List, Result, Ok, Err, refl}
use Rattle.std.specs.Prelude.{codes}
use Rattle.names.specs.VerdictText.{verdict_text}
use Rattle.names.specs.declared.permissions.Perms.{Perms}
use Rattle.names.specs.declared.verdict.Verdict.{Verdict}
use Rattle.names.specs.declared.verdict.Verdict.TheVariants.{Allowed, Denied, NoRule}
use Rattle.rule_globs.specs.PlainVerdict.{verdict}
use Rattle.rule_profile.specs.Profile.{ProfileValue}
use Rattle.rule_reader.specs.ReadText.{outcome_of}
use Rattle.rule_reader.specs.declared.fault.ReadFault.{ReadFault}
use Rattle.answer_json.specs.Lines.{verdict_line}
use Rattle.trace_report.specs.Output.{Output, answer, fault, whole_answer}
use Rattle.trace_report.specs.declared.format.Format.TheVariants.{Text}
use Rattle.trace_report.specs.declared.status.Status.TheVariants.{BadArguments, Done, Unmet}
use Rattle.trace_commands.specs.Judge.{judge_output, verdict_output}
use Rattle.trace_report.specs.ReadStreams.{ask_of}
use Rattle.trace_commands.specs.Quiet.{quiet_judge_output, quiet_output, quiet_verdict_output}

-- ---- of a verdict

allowed_said : (v : Verdict) → (quiet_output v).status ≡ Done → whole_answer (verdict_line Text v) ≡ answer (codes "allowed")
allowed_said Allowed e = refl
allowed_said (Denied rule) e = cc
allowed_said (NoRule missing) e = cc

abbrev pub Refused : Output → Type 0
Refused output = (v : Verdict) × (v ≢ Allowed) × (output ≡ answer (verdict_text v))

refused_said : (v : Verdict) → (quiet_output v).status ≡ Unmet → Refused (whole_answer (verdict_line Text v))
refused_said Allowed e = cc
refused_said (Denied rule) e = (Denied rule, (λ h. cc), refl)
refused_said (NoRule missing) e = (NoRule missing, (λ h. cc), refl)

neither : (v : Verdict) → (quiet_output v).status ≢ Done → (quiet_output v).status ≢ Unmet → ⊥
neither Allowed d u = d refl
neither (Denied rule) d u = u refl
neither (NoRule missing) d u = u refl

-- ---- of a text

allowed_read : (ask : Perms) (name : List ℕ) (outcome : Result ProfileValue ReadFault)
    → (quiet_verdict_output ask name outcome).status ≡ Done → verdict_output Text ask name outcome ≡ answer (codes "allowed")
allowed_read ask name (Ok profile) e = allowed_said (verdict profile.rules name ask) e
allowed_read ask name (Err f) e = cc

refused_read : (ask : Perms) (name : List ℕ) (outcome : Result ProfileValue ReadFault)
    → (quiet_verdict_output ask name outcome).status ≡ Unmet → Refused (verdict_output Text ask name outcome)
refused_read ask name (Ok profile) e = refused_said (verdict profile.rules name ask) e
refused_read ask name (Err f) e = cc

fault_read : (ask : Perms) (name : List ℕ) (outcome : Result ProfileValue ReadFault)
    → (quiet_verdict_output ask name outcome).status ≢ Done → (quiet_verdict_output ask name outcome).status ≢ Unmet
    → verdict_output Text ask name outcome ≡ quiet_verdict_output ask name outcome
fault_read ask name (Ok profile) d u = absurd (neither (verdict profile.rules name ask) d u)
fault_read ask name (Err f) d u = refl

-- ---- of the arguments

abbrev quiet_by : List ℕ → List ℕ → Result Perms (List ℕ) → Output
quiet_by name text asked =
    elim asked [ Err told ↦ fault told BadArguments | Ok ask ↦ quiet_verdict_output ask name (outcome_of text) ]

abbrev loud_by : List ℕ → List ℕ → Result Perms (List ℕ) → Output
loud_by name text asked =
    elim asked [ Err told ↦ fault told BadArguments | Ok ask ↦ verdict_output Text ask name (outcome_of text) ]

allowed_by : (name text : List ℕ) (asked : Result Perms (List ℕ)) → (quiet_by name text asked).status ≡ Done
    → loud_by name text asked ≡ answer (codes "allowed")
allowed_by name text (Err told) e = cc
allowed_by name text (Ok ask) e = allowed_read ask name (outcome_of text) e

refused_by : (name text : List ℕ) (asked : Result Perms (List ℕ)) → (quiet_by name text asked).status ≡ Unmet
    → Refused (loud_by name text asked)
refused_by name text (Err told) e = cc
refused_by name text (Ok ask) e = refused_read ask name (outcome_of text) e

fault_by : (name text : List ℕ) (asked : Result Perms (List ℕ)) → (quiet_by name text asked).status ≢ Done
    → (quiet_by name text asked).status ≢ Unmet → loud_by name text asked ≡ quiet_by name text asked
fault_by name text (Err told) d u = refl
fault_by name text (Ok ask) d u = fault_read ask name (outcome_of text) d u

pub allowed : (perms name text : List ℕ) → (quiet_judge_output perms name text).status ≡ Done
    → judge_output Text perms name text ≡ answer (codes "allowed")
allowed perms name text e = allowed_by name text (ask_of perms name) e

pub refused : (perms name text : List ℕ) → (quiet_judge_output perms name text).status ≡ Unmet
    → Refused (judge_output Text perms name text)
refused perms name text e = refused_by name text (ask_of perms name) e

pub same_fault : (perms name text : List ℕ) → (quiet_judge_output perms name text).status ≢ Done
    → (quiet_judge_output perms name text).status ≢ Unmet → judge_output Text perms name text ≡ quiet_judge_output perms name text
same_fault perms name text d u = fault_by name text (ask_of perms name) d u
