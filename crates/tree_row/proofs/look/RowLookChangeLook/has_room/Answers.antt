use Rattle.std.proofs.Common.{ap, subst}
use Rattle.tree_row.specs.Questions.{TellsFree}
use Rattle.tree_row.proofs.SeenSlots.{known_after}
use Rattle.tree_row.proofs.SeenEntries.{room_seen, no_room_seen}
use Rattle.tree_row.proofs.look.RowLookChangeLook.has_room.Goals as goal

pub returns-in_err-free_slot-clause-keeps : goal.returns-in_err-free_slot-clause-keeps
returns-in_err-free_slot-clause-keeps g c e = known_after _ _ _ _ (ap g.C.Cells.capacity_of c.free_slot.ensures.kept)
    c.free_slot.ensures.fewer e.slot

pub returns-in-Some-clause-keeps : goal.returns-in-Some-clause-keeps
returns-in-Some-clause-keeps g c e = known_after _ _ _ _ (ap g.C.Cells.capacity_of c.free_slot.ensures.kept)
    c.free_slot.ensures.fewer e.slot

pub returns-in-Some-clause-answer : goal.returns-in-Some-clause-answer
returns-in-Some-clause-answer g c = room_seen _ _ _ _ (ap g.C.Cells.capacity_of c.free_slot.ensures.kept)
    (subst (TellsFree (g.C.Cells.capacity_of (g.C.Cells.kept c.args.self.now.cells)) (g.C.Cells.may c.free_slot.new.cells)) c.in-Some.is
    c.in_ok-free_slot.ensures.ok)

pub returns-in-None-clause-answer : goal.returns-in-None-clause-answer
returns-in-None-clause-answer g c = no_room_seen _ _ _ (ap g.C.Cells.capacity_of c.free_slot.ensures.kept)
    (subst (TellsFree (g.C.Cells.capacity_of (g.C.Cells.kept c.args.self.now.cells)) (g.C.Cells.may c.free_slot.new.cells)) c.in-None.is
    c.in_ok-free_slot.ensures.ok)
