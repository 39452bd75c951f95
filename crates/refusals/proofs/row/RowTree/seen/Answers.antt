use Rattle.std.proofs.Common.{◌≡◌, ℕ, List, sym, subst}
use Rattle.row_plan.specs.Plan.{Plannable}
use Rattle.refusals.proofs.row.RowTree.seen.Goals as goal

pub invariant_of-self : goal.invariant_of-self
invariant_of-self c = subst (λ (known : ℕ × List ℕ). Plannable known.0 (λ z. z ≡ known.1) c.self.inside.next)
    (sym c.seen_by.ensures.kept) c.self.invariant
