-- Lists with more after them.
use Rattle.std.proofs.Common.{◌≡◌, ◌⊎◌, inl, inr, ⊎_elim, ℕ, zero, suc, ◌≤◌, List, [], ◌∷◌, ◌++◌, length, Some, None, slice_get}
use Rattle.std.proofs.Common.{Bool, true, false, true≢false, get_or, slice_index_or, refl, sym, ap, ◌∙◌, arith}
use Rattle.std.specs.Cmp.{IsEquivalence}
use Rattle.std.specs.List.{IsDistinct, list_any}
use Rattle.std.proofs.lemmas.Bool.{cases_lt}
use Rattle.std.proofs.lemmas.List.{length-append}
use Rattle.std.proofs.lemmas.List.Folds.{list_any_at}
use Rattle.std.proofs.lemmas.Map.Keys.{IsDistinct-from_apart, apart_from_distinct}
use Rattle.std.proofs.lemmas.Map.Made.{length-le_from_is_member}
use Rattle.std.proofs.lemmas.Option.{none-some, same_Some, slice_get_within, slice_get-get_or, get_or_from_slice_get}
use Rattle.indexmap.proofs.CallerLemmas.{Contains-list_any}
use Rattle.automaton_search.specs.Visits.{AreDistinct}

module _ {K : Type 0} where
  pub get_stays : (xs ys : List K) (i : ℕ) (x : K) → slice_get xs i ≡ Some x → slice_get (xs ++ ys) i ≡ Some x
  get_stays [] ys i x e = absurd (none-some x e)
  get_stays (y ∷ xs) ys zero x e = e
  get_stays (y ∷ xs) ys (suc i) x e = get_stays xs ys i x e

  pub get_last : (xs : List K) (x : K) → slice_get (xs ++ x ∷ []) (length xs) ≡ Some x
  get_last [] x = refl
  get_last (y ∷ xs) x = get_last xs x

  pub get_either : (xs : List K) (x y : K) (i : ℕ) → slice_get (xs ++ x ∷ []) i ≡ Some y → (slice_get xs i ≡ Some y)
      ⊎ ((i ≡ length xs) × (x ≡ y))
  get_either [] x y zero e = inr (refl, same_Some x y e)
  get_either [] x y (suc i) e = absurd (none-some y e)
  get_either (z ∷ xs) x y zero e = inl e
  get_either (z ∷ xs) x y (suc i) e = ⊎_elim (λ h. inl h) (λ h. inr (ap suc h.0, h.1)) (get_either xs x y i e)

  -- different elements and one that isn't among them are different
  pub distinct_more : (xs : List K) (x : K) → AreDistinct xs → ((i : ℕ) → ¬ (slice_get xs i ≡ Some x)) → AreDistinct (xs ++ x ∷ [])
  distinct_more xs x distinct absent i j y lt one other = ⊎_elim
      (λ h. ⊎_elim
      (λ g. distinct i j y lt h g)
      (λ g. absent i (h ∙ ap Some (sym g.1)))
      (get_either xs x y j other))
      (λ h. let within = slice_get_within (xs ++ x ∷ []) j y other in
      omega (arith, lt, within, h.0, length-append xs (x ∷ [])))
      (get_either xs x y i one)

  pub is_empty : (xs : List K) → length xs ≡ 0 → xs ≡ []
  is_empty [] e = refl
  is_empty (x ∷ xs) e = absurd (omega (arith, e))

  pub past_last : (none : K) (xs : List K) (i : ℕ) → slice_get xs i ≡ None → length xs ≤ i
  past_last none xs i is = ⊎_elim
      (λ lt. absurd (none-some (slice_index_or xs i none) (sym is ∙ slice_get-get_or xs i none lt)))
      (λ le. le)
      (cases_lt i (length xs))

module _ {K : Type 0} (eq : K → K → Bool) (same : (a b : K) → eq a b ≡ true → a ≡ b) (itself : (a : K) → eq a a ≡ true) where
  pub all_distinct : (keys : List K) → IsDistinct eq keys → AreDistinct keys
  all_distinct keys distinct i j k lt one other =
      let apart = apart_from_distinct eq keys i j k distinct lt (slice_get_within keys j k other) in
      true≢false (sym (itself k) ∙ ap (λ z. eq z k) (sym (get_or_from_slice_get keys i k k one))
      ∙ ap (eq (get_or keys i k)) (sym (get_or_from_slice_get keys j k k other)) ∙ apart)

  pub not_there : (keys : List K) (key : K) → list_any (eq key) keys ≡ false → (i : ℕ) → ¬ (slice_get keys i ≡ Some key)
  not_there keys key none i at =
      let equal : eq key (get_or keys i key) ≡ true = ap (eq key) (get_or_from_slice_get keys i key key at) ∙ itself key in
      true≢false (sym (list_any_at (eq key) keys i key (slice_get_within keys i key at) equal) ∙ none)

  symmetric : (x y : K) → eq x y ≡ eq y x
  symmetric x y = elim (eq x y) as (λ (d : Bool). eq x y ≡ d → d ≡ eq y x) [
    | true ↦ λ e. sym (ap (λ z. eq z x) (sym (same x y e)) ∙ itself x)
    | false ↦ λ e. elim (eq y x) as (λ (d : Bool). eq y x ≡ d → false ≡ d) [
      | true ↦ λ g. absurd (true≢false (sym (itself x) ∙ ap (eq x) (sym (same y x g)) ∙ e))
      | false ↦ λ g. refl
    ] refl
  ] refl

  equivalence : IsEquivalence eq
  equivalence = record { refl = itself; symm = symmetric; congr = λ x y z e. ap (λ w. eq w z) (same x y e) }

  -- the way back from `all_distinct`
  are_distinct : (keys : List K) → AreDistinct keys → IsDistinct eq keys
  are_distinct keys distinct = IsDistinct-from_apart eq keys (λ i j d lt within.
      let one : K = get_or keys i d in
      let other : K = get_or keys j d in
      elim (eq one other) as (λ (b : Bool). eq one other ≡ b → b ≡ false) [
        | true ↦ λ e. absurd (distinct i j one lt (slice_get-get_or keys i d (omega (arith, lt, within)))
            (slice_get-get_or keys j d within ∙ ap Some (sym (same one other e))))
        | false ↦ λ e. refl
      ] refl)

  -- different keys, each of which is in another list, are no more than it has
  pub no_more : (xs ys : List K) → AreDistinct xs →
      ((i : ℕ) (x : K) → slice_get xs i ≡ Some x → (j : ℕ) × (slice_get ys j ≡ Some x)) → length xs ≤ length ys
  no_more xs ys distinct each =
      length-le_from_is_member equivalence xs ys (are_distinct xs distinct) (λ q met.
      let there = Contains-list_any eq same xs q met in
      let here = each there.0 q (slice_get-get_or xs there.0 q there.1 ∙ ap Some there.2) in
      list_any_at (eq q) ys here.0 q (slice_get_within ys here.0 q here.1)
      (ap (eq q) (get_or_from_slice_get ys here.0 q q here.1) ∙ itself q))
