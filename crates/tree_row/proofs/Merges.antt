-- What is known after more words were merged in.
use Rattle.std.proofs.Common.{◌≡◌, ℕ, Bool, true, false, List, [], ◌∷◌, ◌++◌, Some, None, Option, sym, refl, ap, ◌∙◌, subst}
use Rattle.std.specs.Prelude.{◌⊎◌, cond}
use mathlib.Core.Logic.{inl, inr}
use Rattle.std.specs.List.{IsDistinct, AllByRecursion}
use Rattle.std.specs.List.Sorted.{IsStrictlySortedBy}
use Rattle.std.specs.Map.{keys_of, update_all}
use Rattle.std.specs.Option.{option_or}
use Rattle.std.specs.Ordering.{is_eq, eq_by_cmp, nat_cmp}
use Rattle.std.proofs.lemmas.Cmp.{eq_by_cmp_equiv, nat_cmp_total}
use Rattle.std.proofs.lemmas.Map.Keys.{IsDistinct-from_sorted}
use Rattle.std.proofs.lemmas.Map.Made.{update_all_distinct}
use Rattle.tree_row.specs.Known.{known_at}

distinct : (later : List (ℕ × ℕ)) → IsStrictlySortedBy nat_cmp (keys_of later) → IsDistinct (eq_by_cmp nat_cmp) (keys_of later)
distinct later sorted = IsDistinct-from_sorted nat_cmp (keys_of later) sorted

merged : (old later new : List (ℕ × ℕ)) → IsDistinct (eq_by_cmp nat_cmp) (keys_of later) →
    ((q : ℕ) → known_at new q ≡ update_all (eq_by_cmp nat_cmp) (known_at old) later q) → (q : ℕ) → known_at new q
    ≡ option_or (known_at later q) (known_at old q)
merged old later new apart is q = is q ∙ update_all_distinct (eq_by_cmp_equiv nat_cmp_total) (eq_by_cmp nat_cmp) (λ x y. refl)
    (known_at old) later q apart

pub known_both : (old later new : List (ℕ × ℕ)) → IsStrictlySortedBy nat_cmp (keys_of later) →
    ((q : ℕ) → known_at new q ≡ update_all (eq_by_cmp nat_cmp) (known_at old) later q) → (q : ℕ) → known_at new q
    ≡ option_or (known_at later q) (known_at old q)
known_both old later new sorted is = merged old later new (distinct later sorted) is

front_of_all : (P : ℕ → Type 0) (xs rest : List (ℕ × ℕ)) → AllByRecursion P (keys_of (xs ++ rest)) → AllByRecursion P (keys_of xs)
front_of_all P [] rest h = tt
front_of_all P (x ∷ xs) rest h = (h.0, front_of_all P xs rest h.1)

front_distinct : (xs rest : List (ℕ × ℕ)) → IsDistinct (eq_by_cmp nat_cmp) (keys_of (xs ++ rest)) →
    IsDistinct (eq_by_cmp nat_cmp) (keys_of xs)
unfolding IsDistinct
front_distinct [] rest h = tt
front_distinct (x ∷ xs) rest h = (front_of_all (λ y. eq_by_cmp nat_cmp x.0 y ≡ false) xs rest h.0, front_distinct xs rest h.1)

known_in_front : (xs rest : List (ℕ × ℕ)) (q n : ℕ) → known_at xs q ≡ Some n → known_at (xs ++ rest) q ≡ Some n
known_in_front [] rest q n h = absurd (cc h)
known_in_front (x ∷ xs) rest q n h = elim (is_eq (nat_cmp q x.0)) as (λ (b : Bool). cond b (Some x.1) (known_at xs q) ≡ Some n →
    cond b (Some x.1) (known_at (xs ++ rest) q) ≡ Some n) [
      | true ↦ λ is. is
      | false ↦ λ is. known_in_front xs rest q n is
    ] h

-- if only a prefix was merged in
pub known_either : (old later xs rest new : List (ℕ × ℕ)) → IsStrictlySortedBy nat_cmp (keys_of later) → later ≡ xs ++ rest →
    ((q : ℕ) → known_at new q ≡ update_all (eq_by_cmp nat_cmp) (known_at old) xs q) → (q : ℕ)
    → (known_at new q ≡ known_at old q) ⊎ (known_at new q ≡ known_at later q)
known_either old later xs rest new sorted split is q =
    let apart = front_distinct xs rest (subst (λ (z : List (ℕ × ℕ)). IsDistinct (eq_by_cmp nat_cmp) (keys_of z)) split
    (distinct later sorted)) in
    elim (known_at xs q) as (λ (o : Option ℕ). known_at xs q ≡ o → (known_at new q ≡ known_at old q)
    ⊎ (known_at new q ≡ known_at later q)) [
      | None ↦ λ none. inl (merged old xs new apart is q ∙ ap (λ (o : Option ℕ). option_or o (known_at old q)) none)
      | Some n ↦ λ some. inr (merged old xs new apart is q ∙ ap (λ (o : Option ℕ). option_or o (known_at old q)) some
          ∙ sym (known_in_front xs rest q n some) ∙ ap (λ (z : List (ℕ × ℕ)). known_at z q) (sym split))
    ] refl
