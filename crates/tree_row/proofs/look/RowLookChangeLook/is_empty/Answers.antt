use Rattle.std.proofs.Common.{ap}
use Rattle.tree_row.proofs.SeenSlots.{known_after}
use Rattle.tree_row.proofs.SeenEntries.{childless_answered}
use Rattle.tree_row.proofs.look.RowLookChangeLook.is_empty.Goals as goal

pub returns-clause-keeps : goal.returns-clause-keeps
returns-clause-keeps g c e = known_after _ _ _ _ (ap g.C.Cells.capacity_of c.is_childless.ensures.kept) c.is_childless.ensures.fewer e.slot

pub returns-clause-answer : goal.returns-clause-answer
returns-clause-answer g c = childless_answered _ _ _ _ _
    (ap g.C.Cells.capacity_of c.is_childless.ensures.kept) c.is_childless.ensures.fewer
    c.requires c.is_childless.result c.is_childless.ensures.ok
