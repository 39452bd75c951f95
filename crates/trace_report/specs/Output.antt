-- What a command writes and how it ends, memory and failures of the streams aside.
use Rattle.std.specs.Prelude.{ℕ, Bool, List, [], ◌++◌, Option, Some, None, codes, decimal, unwrap_or, if◌then◌else◌}
use Rattle.matcher.specs.declared.fault.MakeFault.{MakeFault}
use Rattle.matcher.specs.MakeFaults.{fault_number as compile_number}
use Rattle.rule_reader.specs.declared.fault.ReadFault.{ReadFault}
use Rattle.rule_reader.specs.FaultNumber.{fault_number, fault_offset}
use Rattle.tables.specs.Bounds.{fault_index, fault_number as image_number}
use Rattle.tables.specs.declared.fault.ImageFault.{ImageFault}
use Rattle.trace_report.specs.declared.status.Status.{Status}
use Rattle.trace_report.specs.declared.status.Status.TheVariants.{Done, Unmet}

pub record Output : Type 0 where
  -- on standard output
  pub answers : List ℕ
  -- on standard error
  pub faults : List ℕ
  pub status : Status

abbrev pub line : List ℕ → List ℕ
line text = text ++ codes "\n"

abbrev pub answer : List ℕ → Output
answer text = record { answers = line text; faults = []; status = Done }

-- an answer of bytes, which needn't be lines
abbrev pub whole_answer : List ℕ → Output
whole_answer bytes = record { answers = bytes; faults = []; status = Done }

-- the answer to a question whose exit status says whether something was found
abbrev pub finding : List ℕ → Bool → Output
finding bytes found = record { answers = bytes; faults = []; status = if found then Unmet else Done }

abbrev pub fault : List ℕ → Status → Output
fault text status = record { answers = []; faults = line text; status = status }

-- `refused: read N at OFFSET`, with the number and the place of the fault
abbrev pub refusal : ReadFault → List ℕ
refusal f = codes "refused: read " ++ decimal (fault_number f) ++ codes " at " ++ decimal (unwrap_or (fault_offset f) 0)

-- where a fault of an image is, if it says
abbrev pub at_index : Option ℕ → List ℕ
at_index None = []
at_index (Some index) = codes " at " ++ decimal index

-- `refused: compile N`, with the number of the fault
abbrev pub compile_refusal : MakeFault → List ℕ
compile_refusal f = codes "refused: compile " ++ decimal (compile_number f)

-- `refused: image N`, with the number of the fault, and with its state or cell as in `refused: image N at INDEX`
abbrev pub image_refusal : ImageFault → List ℕ
image_refusal f = codes "refused: image " ++ decimal (image_number f) ++ at_index (fault_index f)

-- names have too many sets of live places of all rules that a question is about: a fault of its own, with the number 1
abbrev pub question_refusal : List ℕ
question_refusal = codes "refused: too many states (question 1)"
