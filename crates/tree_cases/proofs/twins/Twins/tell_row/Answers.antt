use Rattle.std.proofs.Common.{◌≡◌, ℕ, List, sym, subst}
use Rattle.row_plan.specs.Plan.{Plannable}
use Rattle.tree_cases.proofs.twins.Twins.tell_row.Goals as goal

pub invariant_of-self : goal.invariant_of-self
invariant_of-self c = subst (λ (known : ℕ × List ℕ). Plannable known.0 (λ z. z ≡ known.1) c.self.inside.next)
    (sym c.tell.ensures.kept) c.self.invariant
