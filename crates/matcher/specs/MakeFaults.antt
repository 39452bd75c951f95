-- Why profiles aren't made.
use Rattle.std.specs.Prelude.{ℕ, List}
use Rattle.glob_automaton.specs.Automata.{most_sets}
use Rattle.glob_automaton.specs.Sets.{AreMoreThan}
use Rattle.automaton_rows.specs.declared.fault.CompileFault.{CompileFault}
use Rattle.automaton_rows.specs.declared.fault.CompileFault.TheVariants as compiling
use Rattle.matcher.specs.declared.fault.MakeFault.{MakeFault}
use Rattle.matcher.specs.declared.fault.MakeFault.TheVariants.{TooManyStates, NoMemory}
use Rattle.rule_profile.specs.Profile.{RuleValue}

-- the number that a fault is reported by
abbrev pub fault_number : MakeFault → ℕ
fault_number TooManyStates = 1
fault_number NoMemory = 2

-- a fault of compiling as a fault of making
abbrev pub made_of : CompileFault → MakeFault
made_of compiling.TooManyStates = TooManyStates
made_of compiling.NoMemory = NoMemory

-- why a profile isn't compiled
abbrev pub IsMakeFault : List RuleValue → MakeFault → Type 0
IsMakeFault rules TooManyStates = AreMoreThan most_sets rules
IsMakeFault rules NoMemory = Unit {0}
