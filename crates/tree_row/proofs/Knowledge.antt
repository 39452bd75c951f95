-- What is known at a place.
use Rattle.std.proofs.Common.{◌≡◌, ℕ, ◌≢◌, ◌==◌, Bool, true, false, refl, ap, ne_eqb}
use Rattle.std.specs.Prelude.{nat_lt, cond}
use Rattle.std.specs.Ordering.{is_eq, nat_cmp}
use Rattle.std.specs.declared.cmp.Ordering.TheVariants.{Less, Equal, Greater}

pub other_place : (p q : ℕ) → p ≢ q → is_eq (nat_cmp p q) ≡ false
other_place p q other = elim (nat_lt p q) as (λ (b : Bool). is_eq (cond b Less (cond (p == q) Equal Greater)) ≡ false) [
  | true ↦ refl
  | false ↦ ap (λ (b : Bool). is_eq (cond b Equal Greater)) (ne_eqb p q other)
]
