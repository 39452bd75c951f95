-- The causes of the permissions before the index are noted.
use Rattle.question_answers.specs.inner.Causes.{AreNoted}
use Rattle.question_answers.proofs.Noted.{AreFirst}
use Rattle.question_answers.proofs.notes.insert_all.Given as goal

abbrev pub invariant-loop-permission : goal.invariant-loop-permission
invariant-loop-permission l = record {
  noted : AreNoted l.initial.seen.keys l.seen.keys l.new (AreFirst l.records l.ask l.permission-index);
}
