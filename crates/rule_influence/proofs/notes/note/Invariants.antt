-- The permissions before the index are noted.
use Rattle.rule_influence.proofs.Entries.{AreNotedBefore}
use Rattle.rule_influence.proofs.notes.note.Given as goal

abbrev pub invariant-loop-permission : goal.invariant-loop-permission
invariant-loop-permission l = record { noted : AreNotedBefore l.hits l.reversed l.permission-index l.initial.decided l.decided }
