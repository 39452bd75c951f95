use Rattle.std.proofs.Common.{◌≡◌, ◌-◌, ◌+◌, ◌∙◌, ℕ, sym, ap, subst, arith}
use Rattle.std.specs.Prelude.{nat_lt}
use mathlib.Core.Logic.{inl, inr}
use Rattle.row_index.specs.Places.{way}
use Rattle.row_index.proofs.Edited.{passes_read}
use Rattle.tree_row.specs.Slots.{slot_at, IsUsed}
use Rattle.tree_row.specs.Rows.{homes_in}
use Rattle.row_plan.proofs.vacancy.moves_back.Goals as goal

pub home_of_slot-home-requires-clause-used : goal.home_of_slot-home-requires-clause-used
home_of_slot-home-requires-clause-used g c row w whole enc = elim (c.requires.word row w whole enc) [
  | inl low ↦ absurd (omega arith)
  | inr there ↦
      let is = there.2 in
      let slot : there.0 ≡ c.args.word - 1 = omega arith in
      subst (IsUsed (g.C.Cells.capacity_of (g.C.Cells.kept c.args.cells.now) + 1) (slot_at row)) slot there.1
]

pub returns-clause-passes : goal.returns-clause-passes
returns-clause-passes g c row w whole enc =
    let size = c.args.size in
    c.passes.ensures
    ∙ ap (λ (z : ℕ). nat_lt (way size z c.args.vacant) (way size z c.args.place)) (c.home_of_slot-home.ensures.home row w whole enc)
    ∙ sym (passes_read size (homes_in size row) c.args.word c.args.vacant c.args.place c.if-word-le-DELETED_WORD.false)
