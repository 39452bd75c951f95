use Rattle.std.proofs.Common.{◌∙◌, ap}
use mathlib.Core.Logic.{inr}
use Rattle.tree_row.proofs.SeenSlots.{known_after, torn_component, torn_unnamed}
use Rattle.tree_row.proofs.look.RowLookLook.component.Goals as goal

pub returns-in_err-lengths-clause-keeps : goal.returns-in_err-lengths-clause-keeps
returns-in_err-lengths-clause-keeps g c e = known_after _ _ _ _ (ap g.C.Cells.capacity_of c.slot_word.ensures.kept)
    c.slot_word.ensures.fewer e.slot

pub returns-then-count-gt-LONGEST_COMPONENT-clause-keeps : goal.returns-then-count-gt-LONGEST_COMPONENT-clause-keeps
returns-then-count-gt-LONGEST_COMPONENT-clause-keeps g c e = known_after _ _ _ _ (ap g.C.Cells.capacity_of c.slot_word.ensures.kept)
    c.slot_word.ensures.fewer e.slot

pub returns-then-count-gt-LONGEST_COMPONENT-clause-torn : goal.returns-then-count-gt-LONGEST_COMPONENT-clause-torn
returns-then-count-gt-LONGEST_COMPONENT-clause-torn g c =
    inr (torn_component _ _ _ _ (ap g.C.Cells.capacity_of c.slot_word.ensures.kept) c.slot_word.ensures.fewer c.args.entry.slot c.requires
    c.if-entry-eq0.false c.in_ok-lengths.lengths c.in_ok-lengths.ensures.ok c.if-count-gt-LONGEST_COMPONENT.true)

pub returns-in_err-read_text-clause-keeps : goal.returns-in_err-read_text-clause-keeps
returns-in_err-read_text-clause-keeps g c e =
    known_after _ _ _ _ (ap g.C.Cells.capacity_of (c.read_text.ensures.kept ∙ c.slot_word.ensures.kept))
    (λ row m. c.slot_word.ensures.fewer row (c.read_text.ensures.fewer row m)) e.slot

pub returns-clause-keeps : goal.returns-clause-keeps
returns-clause-keeps g c e = known_after _ _ _ _ (ap g.C.Cells.capacity_of (c.read_text.ensures.kept ∙ c.slot_word.ensures.kept))
    (λ row m. c.slot_word.ensures.fewer row (c.read_text.ensures.fewer row m)) e.slot

pub returns-then-count-eq0-clause-keeps : goal.returns-then-count-eq0-clause-keeps
returns-then-count-eq0-clause-keeps g c e = known_after _ _ _ _ (ap g.C.Cells.capacity_of c.slot_word.ensures.kept)
    c.slot_word.ensures.fewer e.slot

pub returns-then-count-eq0-clause-torn : goal.returns-then-count-eq0-clause-torn
returns-then-count-eq0-clause-torn g c =
    inr (torn_unnamed _ _ _ _ (ap g.C.Cells.capacity_of c.slot_word.ensures.kept) c.slot_word.ensures.fewer c.args.entry.slot c.requires
    c.if-entry-eq0.false c.in_ok-lengths.lengths c.in_ok-lengths.ensures.ok c.if-count-eq0.true)
