use Rattle.std.proofs.Common.{◌≡◌}
use Rattle.refusals.proofs.trees.seen_by.Given as goal

abbrev pub invariant-loop-text : goal.invariant-loop-text
invariant-loop-text g l = g.L.Look.kept l.look ≡ g.L.Look.kept l.fn.look
