use Rattle.table_image.specs.declared.taken.Taken.{Taken}
use Rattle.table_image.proofs.StartSlots.{AreSlots}
use Rattle.table_image.proofs.starts.Starts.new.Given as goal

abbrev pub invariant-loop-slot : goal.invariant-loop-slot
invariant-loop-slot l = record { slots : (taken : Taken) → AreSlots taken l.slots.items }
