use Rattle.std.proofs.Common.{◌≡◌}
use Rattle.path_lookup.specs.World.{World}
use Rattle.change_checks.proofs.Climbs.{ClimbsTo}
use Rattle.change_checks.proofs.below.lies_below.Given as goal

abbrev pub invariant-loop-step : goal.invariant-loop-step
invariant-loop-step g l = record {
  kept : g.L.Look.kept l.look ≡ g.L.Look.kept l.fn.look;
  narrows : (w : World) → g.L.Look.sees l.look w → g.L.Look.sees l.fn.look w;
  keeps : (e : _) → g.L.Look.knows l.fn.look e → g.L.Look.knows l.look e;
  known : g.L.Look.knows l.look l.at;
  climbs : (w : World) → g.L.Look.sees l.look w → ClimbsTo w.tree l.fn.top (g.L.Look.means l.fn.from w) (g.L.Look.means l.at w) l.step;
}
