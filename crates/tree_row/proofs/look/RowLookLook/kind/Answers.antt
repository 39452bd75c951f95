use Rattle.std.proofs.Common.{ap}
use mathlib.Core.Logic.{inr}
use Rattle.tree_row.proofs.SeenSlots.{known_after, torn_kind}
use Rattle.tree_row.proofs.look.RowLookLook.kind.Goals as goal

pub returns-in_err-kind-clause-keeps : goal.returns-in_err-kind-clause-keeps
returns-in_err-kind-clause-keeps g c e = known_after _ _ _ _ (ap g.C.Cells.capacity_of c.slot_word.ensures.kept)
    c.slot_word.ensures.fewer e.slot

pub returns-then-kind-eq-DIRECTORY-clause-keeps : goal.returns-then-kind-eq-DIRECTORY-clause-keeps
returns-then-kind-eq-DIRECTORY-clause-keeps g c e = known_after _ _ _ _ (ap g.C.Cells.capacity_of c.slot_word.ensures.kept)
    c.slot_word.ensures.fewer e.slot

pub returns-then-kind-eq-FILE-clause-keeps : goal.returns-then-kind-eq-FILE-clause-keeps
returns-then-kind-eq-FILE-clause-keeps g c e = known_after _ _ _ _ (ap g.C.Cells.capacity_of c.slot_word.ensures.kept)
    c.slot_word.ensures.fewer e.slot

pub returns-then-kind-eq-LINK-clause-keeps : goal.returns-then-kind-eq-LINK-clause-keeps
returns-then-kind-eq-LINK-clause-keeps g c e = known_after _ _ _ _ (ap g.C.Cells.capacity_of c.slot_word.ensures.kept)
    c.slot_word.ensures.fewer e.slot

pub returns-clause-keeps : goal.returns-clause-keeps
returns-clause-keeps g c e = known_after _ _ _ _ (ap g.C.Cells.capacity_of c.slot_word.ensures.kept) c.slot_word.ensures.fewer e.slot

pub returns-clause-torn : goal.returns-clause-torn
returns-clause-torn g c = inr (torn_kind _ _ _ _ (ap g.C.Cells.capacity_of c.slot_word.ensures.kept) c.slot_word.ensures.fewer
    c.args.entry.slot c.requires c.if-entry-eq0.false c.in_ok-kind.kind c.in_ok-kind.ensures.ok c.if-kind-eq-DIRECTORY.false
    c.if-kind-eq-FILE.false c.if-kind-eq-LINK.false)
