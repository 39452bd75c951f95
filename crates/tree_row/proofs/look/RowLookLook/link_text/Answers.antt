use Rattle.std.proofs.Common.{◌∙◌, ap}
use mathlib.Core.Logic.{inr}
use Rattle.tree_row.proofs.SeenSlots.{known_after, torn_text}
use Rattle.tree_row.proofs.look.RowLookLook.link_text.Goals as goal

pub returns-in_err-lengths-clause-keeps : goal.returns-in_err-lengths-clause-keeps
returns-in_err-lengths-clause-keeps g c e = known_after _ _ _ _ (ap g.C.Cells.capacity_of c.slot_word.ensures.kept)
    c.slot_word.ensures.fewer e.slot

pub returns-then-count-gt-LONGEST_LINK_TEXT-clause-keeps : goal.returns-then-count-gt-LONGEST_LINK_TEXT-clause-keeps
returns-then-count-gt-LONGEST_LINK_TEXT-clause-keeps g c e = known_after _ _ _ _ (ap g.C.Cells.capacity_of c.slot_word.ensures.kept)
    c.slot_word.ensures.fewer e.slot

pub returns-then-count-gt-LONGEST_LINK_TEXT-clause-torn : goal.returns-then-count-gt-LONGEST_LINK_TEXT-clause-torn
returns-then-count-gt-LONGEST_LINK_TEXT-clause-torn g c =
    inr (torn_text _ _ _ _ (ap g.C.Cells.capacity_of c.slot_word.ensures.kept) c.slot_word.ensures.fewer c.args.entry.slot c.requires
    c.if-entry-eq0.false c.in_ok-lengths.lengths c.in_ok-lengths.ensures.ok c.if-count-gt-LONGEST_LINK_TEXT.true)

pub returns-in_err-read_text-clause-keeps : goal.returns-in_err-read_text-clause-keeps
returns-in_err-read_text-clause-keeps g c e =
    known_after _ _ _ _ (ap g.C.Cells.capacity_of (c.read_text.ensures.kept ∙ c.slot_word.ensures.kept))
    (λ row m. c.slot_word.ensures.fewer row (c.read_text.ensures.fewer row m)) e.slot

pub returns-clause-keeps : goal.returns-clause-keeps
returns-clause-keeps g c e = known_after _ _ _ _ (ap g.C.Cells.capacity_of (c.read_text.ensures.kept ∙ c.slot_word.ensures.kept))
    (λ row m. c.slot_word.ensures.fewer row (c.read_text.ensures.fewer row m)) e.slot
