-- What is written is the end of the name: what comes before it is the name down to `below`.
use Rattle.std.proofs.Common.{◌≡◌, ◌<◌, ◌≤◌, ◌++◌, drop}
use Rattle.directory_tree.specs.Name.{name_of}
use Rattle.path_lookup.specs.World.{World, Narrows}
use Rattle.path_lookup.proofs.NameParts.{stem}
use Rattle.path_lookup.proofs.name.name_of.Given as goal

abbrev pub invariant-loop-directory : goal.invariant-loop-directory
invariant-loop-directory g l = record {
  kept : g.L.Look.kept l.look ≡ g.L.Look.kept l.fn.look;
  narrows : Narrows (g.L.Look.sees l.fn.look) (g.L.Look.sees l.look);
  keeps : (e : _) → g.L.Look.knows l.fn.look e → g.L.Look.knows l.look e;
  known : g.L.Look.knows l.look l.below;
  some : 0 < l.start;
  within : l.start ≤ 4096;
  name : (w : World) → g.L.Look.sees l.look w → name_of w.tree (g.L.Look.means l.fn.entry w) ≡ stem w.tree (g.L.Look.means l.below w)
      ++ drop l.start l.room;
}

abbrev pub decreases-loop-directory : goal.decreases-loop-directory
decreases-loop-directory g l = l.start
