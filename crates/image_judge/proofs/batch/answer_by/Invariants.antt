-- The names so far have their answers.
use Rattle.std.proofs.Common.{◌≡◌, ◌+◌, length}
use Rattle.image_judge.specs.inner.Parts.{AreToldTo}
use Rattle.image_judge.proofs.batch.answer_by.Given as goal

abbrev pub invariant-loop-i : goal.invariant-loop-i
invariant-loop-i l = record {
  long : length l.answers ≡ length l.fn.answers;
  told : AreToldTo l.image l.ask l.names l.offsets (l.first + l.i) l.answers;
}
