use Rattle.std.proofs.Common.{◌≡◌}
use mathlib.Core.List.{IsPrefix}
use Rattle.refusals.proofs.opens.show_opened.Given as goal

abbrev pub invariant-loop-text : goal.invariant-loop-text
invariant-loop-text g l = record {
  table : l.session.walk.table ≡ l.fn.session.walk.table;
  keeper : l.keeper ≡ l.fn.keeper;
  publisher : l.publisher ≡ l.fn.publisher;
  learned : IsPrefix l.session.reading.learned l.fn.publisher.published;
}
