-- From here the text that is left leads where all of it leads from the start.
use Rattle.std.proofs.Common.{◌≡◌, length}
use Rattle.path_lookup.specs.World.{World, Narrows}
use Rattle.path_lookup.specs.inner.Steps.{IsDirectory, HasRoom, work_left, onward_from}
use Rattle.path_lookup.proofs.walk.resolve_from.Given as goal

abbrev pub invariant-loop-entry : goal.invariant-loop-entry
invariant-loop-entry g l = record {
  kept : g.L.Look.kept l.look ≡ g.L.Look.kept l.fn.look;
  narrows : Narrows (g.L.Look.sees l.fn.look) (g.L.Look.sees l.look);
  keeps : (e : _) → g.L.Look.knows l.fn.look e → g.L.Look.knows l.look e;
  known : g.L.Look.knows l.look l.directory;
  room : HasRoom (length l.scratch) l.links;
  directory : (w : World) → g.L.Look.sees l.look w → IsDirectory w.tree (g.L.Look.means l.directory w);
  here : (w : World) → g.L.Look.sees l.look w → onward_from w l.last l.most_links
      (g.L.Look.means l.fn.start w) l.fn.scratch ≡ onward_from w l.last l.links (g.L.Look.means l.directory w) l.scratch;
}

abbrev pub decreases-loop-entry : goal.decreases-loop-entry
decreases-loop-entry g l = work_left (length l.scratch) l.links
