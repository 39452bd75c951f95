-- Faults of one of two profiles, and how they are reported.
use Rattle.std.specs.Prelude.{ℕ, List, ◌++◌}
use Rattle.trace_questions.specs.Differences.{side_text}
use Rattle.question_answers.specs.declared.side.Side.{Side}
use Rattle.trace_questions.specs.declared.sides.SideFault.{SideFault}
use Rattle.trace_questions.specs.declared.sides.SideFault.TheVariants.{Neither, Of}
use Rattle.trace_report.specs.Fault.{fault_status, fault_text}
use Rattle.trace_report.specs.declared.fault.Fault.{Fault}
use Rattle.trace_report.specs.declared.fault.Fault.TheVariants.{Compiling, Text}
use Rattle.trace_report.specs.declared.status.Status.{Status}

abbrev pub side_fault_of : Side → Fault → SideFault
side_fault_of side (Text f) = Of side (Text f)
side_fault_of side (Compiling f) = Of side (Compiling f)
side_fault_of side f = Neither f

abbrev pub side_fault_text : SideFault → List ℕ
side_fault_text (Neither f) = fault_text f
side_fault_text (Of side f) = fault_text f ++ side_text side

abbrev pub side_fault_status : SideFault → Status
side_fault_status (Neither f) = fault_status f
side_fault_status (Of side f) = fault_status f
