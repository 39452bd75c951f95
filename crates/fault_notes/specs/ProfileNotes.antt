-- What is said about a profile's text that is refused. The sentences are our own.
use Rattle.std.specs.Prelude.{ℕ, List, Result, Ok, Err, codes}
use Rattle.fault_notes.specs.Sentences.{ended}
use Rattle.rule_explain.specs.FaultLines.{fault_lines}
use Rattle.rule_profile.specs.Profile.{ProfileValue}
use Rattle.rule_reader.specs.declared.fault.ReadFault.{ReadFault}
use Rattle.rule_reader.specs.ReadText.{outcome_of}

-- of a text without a fault: what `compile` refuses it for
abbrev pub too_many_states : List ℕ
too_many_states = codes "too many states: names lead to more than 16,384 sets of live places of the rules"

-- where the fault is, and which
abbrev pub refused_notes : List ℕ → ReadFault → List ℕ
refused_notes text f = ended (fault_lines text f)

abbrev pub notes_of_outcome : List ℕ → Result ProfileValue ReadFault → List ℕ
notes_of_outcome text (Ok profile) = ended too_many_states
notes_of_outcome text (Err f) = refused_notes text f

abbrev pub profile_notes : List ℕ → List ℕ
profile_notes text = notes_of_outcome text (outcome_of text)
