use Rattle.std.proofs.Common.{ap}
use Rattle.tree_row.proofs.SeenSlots.{known_after}
use Rattle.tree_row.proofs.look.RowLookLook.node.Goals as goal

pub returns-clause-keeps : goal.returns-clause-keeps
returns-clause-keeps g c e = known_after _ _ _ _ (ap g.C.Cells.capacity_of c.slot_word.ensures.kept) c.slot_word.ensures.fewer e.slot
