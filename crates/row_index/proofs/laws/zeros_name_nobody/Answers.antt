use Rattle.std.proofs.Common.{arith, ◌≤◌, ℕ, subst, sym}
use mathlib.Core.Logic.{inl}
use Rattle.row_index.proofs.laws.zeros_name_nobody.Goals as goal

pub returns : goal.returns
returns g c size word zeros none = record {
  found = λ s is. absurd (none s is);
  once = λ p q s near far is one two. absurd (none s is);
  others = λ p near. inl (subst (λ (z : ℕ). z ≤ 1) (sym (zeros p near)) (omega arith));
}
