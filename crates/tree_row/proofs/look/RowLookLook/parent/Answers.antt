use Rattle.std.proofs.Common.{◌+◌, ◌∙◌, ℕ, sym, ap, subst}
use mathlib.Core.Logic.{inr}
use Rattle.std.proofs.Common.{◌<◌, ◌≤◌}
use Rattle.tree_row.proofs.SeenSlots.{known_after, torn_parent, known_parent, parent_seen}
use Rattle.tree_row.proofs.look.RowLookLook.parent.Goals as goal

pub returns-in_err-parent-clause-keeps : goal.returns-in_err-parent-clause-keeps
returns-in_err-parent-clause-keeps g c e = known_after _ _ _ _ (ap g.C.Cells.capacity_of c.slot_word.ensures.kept)
    c.slot_word.ensures.fewer e.slot

pub returns-then-parent-slots-clause-keeps : goal.returns-then-parent-slots-clause-keeps
returns-then-parent-slots-clause-keeps g c e = known_after _ _ _ _ (ap g.C.Cells.capacity_of c.slot_word.ensures.kept)
    c.slot_word.ensures.fewer e.slot

pub returns-clause-keeps : goal.returns-clause-keeps
returns-clause-keeps g c e = known_after _ _ _ _ (ap g.C.Cells.capacity_of c.slot_word.ensures.kept) c.slot_word.ensures.fewer e.slot

pub returns-then-parent-slots-clause-torn : goal.returns-then-parent-slots-clause-torn
returns-then-parent-slots-clause-torn g c =
    inr (torn_parent _ _ _ _ (ap g.C.Cells.capacity_of c.slot_word.ensures.kept) c.slot_word.ensures.fewer c.args.entry.slot c.requires
    c.if-entry-eq0.false c.in_ok-parent.parent c.in_ok-parent.ensures.ok (subst (λ (z : ℕ). z + 1 ≤ c.in_ok-parent.parent)
    (sym (ap g.C.Cells.capacity_of c.slot_word.ensures.kept ∙ sym c.capacity-slots.ensures.capacity)) c.if-parent-slots.true))

pub returns-clause-known : goal.returns-clause-known
returns-clause-known g c = known_parent _ _ _ _ (ap g.C.Cells.capacity_of c.slot_word.ensures.kept) c.slot_word.ensures.fewer
    c.args.entry.slot c.requires c.if-entry-eq0.false c.in_ok-parent.parent c.in_ok-parent.ensures.ok
    (subst (λ (z : ℕ). c.in_ok-parent.parent < z + 1)
    (sym (ap g.C.Cells.capacity_of c.slot_word.ensures.kept ∙ sym c.capacity-slots.ensures.capacity)) c.if-parent-slots.false)

pub returns-clause-answer : goal.returns-clause-answer
returns-clause-answer g c = parent_seen _ _ _ _ (ap g.C.Cells.capacity_of c.slot_word.ensures.kept) c.slot_word.ensures.fewer
    c.args.entry.slot c.requires c.if-entry-eq0.false c.in_ok-parent.parent c.in_ok-parent.ensures.ok
