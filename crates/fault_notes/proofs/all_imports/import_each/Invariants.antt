-- The outcome of the profiles that are left says that of all.
use Rattle.fault_notes.proofs.EachImport.{Leaves}
use Rattle.fault_notes.proofs.all_imports.import_each.Given as goal

abbrev pub invariant-loop-number : goal.invariant-loop-number
invariant-loop-number l = Leaves l.options l.read l.number
