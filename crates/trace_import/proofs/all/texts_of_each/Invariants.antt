-- The texts of the first profiles, and what is still to be imported.
use Rattle.trace_import.proofs.AllProfiles.{AreSoFar}
use Rattle.trace_import.proofs.all.texts_of_each.Given as goal

abbrev pub invariant-loop-number : goal.invariant-loop-number
invariant-loop-number l = AreSoFar l.account l.options l.text l.read l.number l.texts
