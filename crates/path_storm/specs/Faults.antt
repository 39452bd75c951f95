-- Why there was no storm, and how that is reported.
use Rattle.std.specs.Prelude.{ℕ, List, codes}
use Rattle.names.specs.Errors.{no_memory_text}
use Rattle.path_storm.specs.declared.fault.StormFault.{StormFault}
use Rattle.path_storm.specs.declared.fault.StormFault.TheVariants.{NoMemory, NoThread, NoSeat}
use Rattle.path_guard.specs.declared.fault.SessionFault.{SessionFault}
use Rattle.path_guard.specs.declared.fault.SessionFault.TheVariants as session

abbrev pub storm_fault_text : StormFault → List ℕ
storm_fault_text NoMemory = no_memory_text
storm_fault_text NoThread = codes "no thread"
storm_fault_text NoSeat = codes "no seat"

-- the fault of a session that wasn't made
abbrev pub of_session : SessionFault → StormFault
of_session session.NoSeat = NoSeat
of_session session.NoMemory = NoMemory
