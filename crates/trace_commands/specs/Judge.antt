-- What `judge` writes, memory and failures of the streams aside.
use Rattle.std.specs.Prelude.{ℕ, List, Result, Ok, Err}
use Rattle.names.specs.declared.permissions.Perms.{Perms}
use Rattle.rule_reader.specs.declared.fault.ReadFault.{ReadFault}
use Rattle.rule_globs.specs.PlainVerdict.{verdict}
use Rattle.rule_profile.specs.Profile.{ProfileValue}
use Rattle.rule_reader.specs.ReadText.{outcome_of}
use Rattle.answer_json.specs.Lines.{verdict_line}
use Rattle.trace_report.specs.declared.format.Format.{Format}
use Rattle.trace_report.specs.declared.status.Status.TheVariants.{BadArguments, Refused}
use Rattle.trace_report.specs.Output.{Output, fault, refusal, whole_answer}
use Rattle.trace_report.specs.ReadStreams.{ask_of}

-- the verdict on the name by the profile that was read, or why there is none
abbrev pub verdict_output : Format → Perms → List ℕ → Result ProfileValue ReadFault → Output
verdict_output format ask name (Ok profile) = whole_answer (verdict_line format (verdict profile.rules name ask))
verdict_output format ask name (Err f) = fault (refusal f) Refused

-- what `judge PERMS NAME` writes on a text, in either format
abbrev pub judge_output : Format → List ℕ → List ℕ → List ℕ → Output
judge_output format perms name text = elim (ask_of perms name) [
  | Err told ↦ fault told BadArguments
  | Ok ask ↦ verdict_output format ask name (outcome_of text)
]
