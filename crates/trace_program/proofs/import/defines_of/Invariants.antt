-- The first values are taken.
use Rattle.std.proofs.Common.{◌≡◌, map, take}
use Rattle.trace_arguments.specs.Values.{define_value}
use Rattle.trace_program.specs.Import.{defined_pair}
use Rattle.trace_program.proofs.import.defines_of.Given as goal

abbrev pub invariant-loop-define : goal.invariant-loop-define
invariant-loop-define l = map defined_pair l.defines.items ≡ map define_value (take l.define-index l.asked)
