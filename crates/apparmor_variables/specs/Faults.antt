-- What a fault says.
use Rattle.apparmor_variables.specs.Problems.{Problem, undefined, cycle, too_long}
use Rattle.apparmor_variables.specs.declared.fault.ExpandFault.{ExpandFault}
use Rattle.apparmor_variables.specs.declared.fault.ExpandFault.TheVariants.{Undefined, Cycle, TooLong, NoMemory}

-- The fault reports a problem of this kind, with its name; an out-of-memory fault says nothing.
abbrev pub Tells : (Problem → Type 0) → ExpandFault → Type 0
Tells IsProblem (Undefined name) = IsProblem (undefined name.now)
Tells IsProblem (Cycle name) = IsProblem (cycle name.now)
Tells IsProblem TooLong = IsProblem too_long
Tells IsProblem NoMemory = Unit {0}
