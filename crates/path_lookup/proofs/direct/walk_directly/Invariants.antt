-- From here the text that is left leads where all of it leads, and the text before it is the directory's name.
use Rattle.std.proofs.Common.{◌≡◌, ◌≤◌, ◌++◌, length}
use Rattle.directory_tree.specs.Walk.{walk, max_links}
use Rattle.path_lookup.specs.World.{World, Narrows}
use Rattle.path_lookup.specs.inner.Steps.{IsDirectory, onward_from}
use Rattle.path_lookup.proofs.NameParts.{stem}
use Rattle.path_lookup.proofs.direct.walk_directly.Given as goal

abbrev pub invariant-loop-component : goal.invariant-loop-component
invariant-loop-component g l = record {
  kept : g.L.Look.kept l.look ≡ g.L.Look.kept l.fn.look;
  narrows : Narrows (g.L.Look.sees l.fn.look) (g.L.Look.sees l.look);
  keeps : (e : _) → g.L.Look.knows l.fn.look e → g.L.Look.knows l.look e;
  known : g.L.Look.knows l.look l.directory;
  short : length l.left ≤ length l.text;
  directory : (w : World) → g.L.Look.sees l.look w → IsDirectory w.tree (g.L.Look.means l.directory w);
  here : (w : World) → g.L.Look.sees l.look w → walk w.tree l.last l.text ≡ onward_from w l.last max_links
      (g.L.Look.means l.directory w) l.left;
  name : (w : World) → g.L.Look.sees l.look w → stem w.tree (g.L.Look.means l.directory w) ++ l.left ≡ l.text;
}

abbrev pub decreases-loop-component : goal.decreases-loop-component
decreases-loop-component g l = length l.left
