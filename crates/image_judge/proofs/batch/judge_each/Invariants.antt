-- The names so far have their answers.
use Rattle.std.proofs.Common.{◌≡◌, length}
use Rattle.image_judge.specs.inner.Parts.{AreToldTo}
use Rattle.image_judge.proofs.batch.judge_each.Given as goal

abbrev pub invariant-loop-place : goal.invariant-loop-place
invariant-loop-place l = record {
  long : length l.answers ≡ length l.fn.answers;
  told : AreToldTo l.image l.ask l.names l.offsets l.place l.answers;
}
