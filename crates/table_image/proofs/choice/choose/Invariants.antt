-- The best so far is a choice.
use Rattle.std.proofs.Common.{◌≡◌, length}
use Rattle.table_image.specs.inner.DefaultChoice.{IsChoice}
use Rattle.table_image.proofs.choice.choose.Given as goal

abbrev pub invariant-loop-near : goal.invariant-loop-near
invariant-loop-near l = record {
  long : length l.counts ≡ length l.fn.counts;
  choice : IsChoice l.dfa l.depths l.state l.most_depth l.best;
}
