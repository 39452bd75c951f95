-- What `explain` writes, memory and failures of the streams aside.
use Rattle.std.specs.Prelude.{◌≡◌, ℕ, List, ◌++◌, Result, Ok, Err}
use Rattle.names.specs.declared.permissions.Perms.{Perms}
use Rattle.answer_json.specs.Lines.{explanation}
use Rattle.rule_explain.specs.FaultLines.{fault_lines}
use Rattle.rule_reader.specs.declared.fault.ReadFault.{ReadFault}
use Rattle.rule_profile.specs.Profile.{ProfileValue}
use Rattle.rule_reader.specs.ReadText.{outcome_of}
use Rattle.rule_reader.specs.Spans.{spans_of}
use Rattle.trace_report.specs.ReadStreams.{ask_of}
use Rattle.trace_report.specs.Output.{Output, fault, line, refusal, whole_answer}
use Rattle.trace_report.specs.declared.format.Format.{Format}
use Rattle.trace_report.specs.declared.status.Status.TheVariants.{BadArguments, Refused}

-- for a text that is refused: the line that other commands write, too, and then where the fault is
abbrev pub refusal_text : List ℕ → ReadFault → List ℕ
refusal_text text f = line (refusal f) ++ fault_lines text f

-- the explanation for the name by a text that was read, or why there is none
abbrev pub explained_output : Format → Perms → List ℕ → List ℕ → Result ProfileValue ReadFault → Output
explained_output format ask name text (Ok profile) = whole_answer (explanation format text profile.rules (spans_of text) name ask)
explained_output format ask name text (Err f) = fault (refusal_text text f) Refused

-- what `explain PERMS NAME` writes on a text, in either format
abbrev pub explain_output : Format → List ℕ → List ℕ → List ℕ → Output
explain_output format perms name text = elim (ask_of perms name) [
  | Err told ↦ fault told BadArguments
  | Ok ask ↦ explained_output format ask name text (outcome_of text)
]

-- the same status, and on each stream the same, perhaps with more after it
pub record GoesOnFrom (one other : Output) : Type 0 where
  pub status : other.status ≡ one.status
  pub answers : (more : List ℕ) × (other.answers ≡ one.answers ++ more)
  pub faults : (more : List ℕ) × (other.faults ≡ one.faults ++ more)
