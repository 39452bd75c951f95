-- The first element that passes a test, as one after another is tested.
use Rattle.std.proofs.Common.{◌≡◌, ℕ, zero, suc, ◌+◌, ◌-◌, ◌<◌, ◌≤◌, Bool, true, false, List, [], ◌∷◌, Option, Some, None, cond}
use Rattle.std.proofs.Common.{find, take, get_or, length, refl, sym, ap, ◌∙◌, arith}
use Rattle.std.proofs.lemmas.List.{get_or_default, take_all}
use Rattle.names.specs.declared.permissions.Perms.{Perms}
use Rattle.trace_lint.specs.Parts.{decided_by, no_perms}

module _ {X : Type 0} where
  -- the first doesn't pass, and none of the others does
  pub not_first : (b : Bool) (x : X) (rest : Option X) → cond b (Some x) rest ≡ None → (b ≡ false) × (rest ≡ None)
  not_first true x rest e = cc (e)
  not_first false x rest e = (refl, e)

  module _ (test : X → Bool) where
    pub none_more : (xs : List X) (i : ℕ) (d : X) → i < length xs → find test (take i xs) ≡ None → test (get_or xs i d) ≡ false →
        find test (take (i + 1) xs) ≡ None
    none_more [] i d lt none fails = absurd (omega (arith, lt))
    none_more (x ∷ xs) zero d lt none fails = ap (λ b. cond b (Some x) None) fails
    none_more (x ∷ xs) (suc i) d lt none fails =
        let parts = not_first (test x) x (find test (take i xs)) none in
        let e : suc i + 1 ≡ suc (i + 1) = omega arith in
        ap (λ z. find test (take z (x ∷ xs))) e ∙ ap (λ b. cond b (Some x) (find test (take (i + 1) xs))) parts.0
        ∙ none_more xs i d (omega (arith, lt)) parts.1 fails

    pub first_here : (xs : List X) (i : ℕ) (d : X) → i < length xs → find test (take i xs) ≡ None → test (get_or xs i d) ≡ true →
        find test xs ≡ Some (get_or xs i d)
    first_here [] i d lt none passes = absurd (omega (arith, lt))
    first_here (x ∷ xs) zero d lt none passes = ap (λ b. cond b (Some x) (find test xs)) passes
    first_here (x ∷ xs) (suc i) d lt none passes =
        let parts = not_first (test x) x (find test (take i xs)) none in
        ap (λ b. cond b (Some x) (find test xs)) parts.0 ∙ first_here xs i d (omega (arith, lt)) parts.1 passes

    pub none_all : (xs : List X) (i : ℕ) → length xs ≤ i → find test (take i xs) ≡ None → find test xs ≡ None
    none_all xs i past none = ap (find test) (sym (take_all i xs past)) ∙ none

-- what is looked at of a rule is what it decides
pub decided_there : (decided : List Perms) (n m : ℕ) (d : Perms) → m ≡ n → 1 ≤ n → n ≤ length decided →
    decided_by decided n ≡ get_or decided (m - 1) d
decided_there decided n m d same ge le =
    get_or_default decided (n - 1) no_perms d (omega (arith, ge, le)) ∙ ap (λ z. get_or decided (z - 1) d) (sym same)
