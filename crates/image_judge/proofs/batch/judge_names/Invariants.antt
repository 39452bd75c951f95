-- The names so far have their answers.
use Rattle.std.proofs.Common.{◌≡◌, ◌≤◌, ◌-◌, length}
use Rattle.image_judge.specs.inner.Parts.{AreToldTo}
use Rattle.image_judge.proofs.batch.judge_names.Given as goal

abbrev pub invariant-loop-first : goal.invariant-loop-first
invariant-loop-first l = record {
  long : length l.answers ≡ l.count;
  within : l.first ≤ l.count;
  told : AreToldTo l.image l.ask l.names l.offsets l.first l.answers;
}

abbrev pub decreases-loop-first : goal.decreases-loop-first
decreases-loop-first l = l.count - l.first
