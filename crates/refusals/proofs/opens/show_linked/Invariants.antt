use Rattle.std.proofs.Common.{◌≡◌}
use mathlib.Core.List.{IsPrefix}
use Rattle.refusals.proofs.opens.show_linked.Given as goal

abbrev pub invariant-loop-old : goal.invariant-loop-old
invariant-loop-old g l = record {
  table : l.session.walk.table ≡ l.keeper.table;
  publisher : l.publisher ≡ l.fn.publisher;
  learned : IsPrefix l.session.reading.learned l.fn.publisher.published;
}
