use Rattle.std.proofs.Common.{◌≡◌, ℕ, List, sym, refl, subst}
use Rattle.tree_row.specs.Worlds.{EncodesWorld}
use Rattle.row_plan.specs.Plan.{Plannable}
use Rattle.tree_cases.proofs.twins.Twins.apply_row_once.Goals as goal

pub invariant_of-self : goal.invariant_of-self
invariant_of-self c =
    let (row, w, is, enc, next_is) = c.self.invariant in
    let old = c.self.inside.look.cells in
    let changes = c.in-Ok.ensures.ok w (subst (λ (z : List ℕ). EncodesWorld old.0 z w) is enc) next_is in
    let new = c.change_row.new.look.cells.1 in (
      new,
      changes.after,
      refl,
      subst (λ (n : ℕ). EncodesWorld n new changes.after) (sym c.change_row.ensures.capacity)
          changes.encodes,
      changes.next_is,
    )

pub invariant_of-self-in-Err : goal.invariant_of-self-in-Err
invariant_of-self-in-Err c =
    subst (λ (known : ℕ × List ℕ). Plannable known.0 (λ z. z ≡ known.1) c.self.inside.next) (sym c.in-Err.ensures.same) c.self.invariant
