-- The numbers by which faults of compiling are reported.
use Rattle.std.specs.Prelude.{ℕ}
use Rattle.automaton_rows.specs.declared.fault.CompileFault.{CompileFault}
use Rattle.automaton_rows.specs.declared.fault.CompileFault.TheVariants.{TooManyStates, NoMemory}

abbrev pub fault_number : CompileFault → ℕ
fault_number TooManyStates = 1
fault_number NoMemory = 2
