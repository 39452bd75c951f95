-- Numbers of what is met: where a key is, and what the keys are with one more.
use Rattle.std.proofs.Common.{◌≡◌, ◌≢◌, ◌⊎◌, inl, inr, ⊎_elim, ℕ, zero, suc, ◌≤◌, Bool, true, false, true≢false, List, [], ◌∷◌}
use Rattle.std.proofs.Common.{◌++◌, length, Some, slice_get, get_or, refl, sym, ap, ◌∙◌, arith}
use Rattle.std.specs.List.{IsDistinct, list_any, position}
use Rattle.std.proofs.lemmas.Bool.{cases_lt}
use Rattle.std.proofs.lemmas.List.{length-append}
use Rattle.std.proofs.lemmas.List.Folds.{list_any_at}
use Rattle.std.proofs.lemmas.List.Quantifiers.{position-Some}
use Rattle.std.proofs.lemmas.Option.{none-some, same_Some, slice_get_within, slice_get-get_or, get_or_from_slice_get}
use Rattle.std.proofs.lemmas.Map.Keys.{apart_from_distinct}
use Rattle.automaton_rows.specs.Automata.{most_sets}
use Rattle.automaton_products.specs.Numbers.{AreDistinct, IsAbsent, IsNumbered}

-- ---- a list with more after it

module _ {K : Type 0} where
  pub get_stays : (xs ys : List K) (i : ℕ) (x : K) → slice_get xs i ≡ Some x → slice_get (xs ++ ys) i ≡ Some x
  get_stays [] ys i x e = absurd (none-some x e)
  get_stays (y ∷ xs) ys zero x e = e
  get_stays (y ∷ xs) ys (suc i) x e = get_stays xs ys i x e

  pub get_last : (xs : List K) (x : K) → slice_get (xs ++ x ∷ []) (length xs) ≡ Some x
  get_last [] x = refl
  get_last (y ∷ xs) x = get_last xs x

  pub get_either : (xs : List K) (x y : K) (i : ℕ) → slice_get (xs ++ x ∷ []) i ≡ Some y → (slice_get xs i ≡ Some y)
      ⊎ ((i ≡ length xs) × (x ≡ y))
  get_either [] x y zero e = inr (refl, same_Some x y e)
  get_either [] x y (suc i) e = absurd (none-some y e)
  get_either (z ∷ xs) x y zero e = inl e
  get_either (z ∷ xs) x y (suc i) e = ⊎_elim (λ h. inl h) (λ h. inr (ap suc h.0, h.1)) (get_either xs x y i e)

  -- different keys and one that isn't among them are different
  pub distinct_more : (keys : List K) (key : K) → AreDistinct keys → IsAbsent keys key → AreDistinct (keys ++ key ∷ [])
  distinct_more keys key distinct absent i j k lt one other = ⊎_elim
      (λ h. ⊎_elim
      (λ g. distinct i j k lt h g)
      (λ g. absent i (h ∙ ap Some (sym g.1)))
      (get_either keys key k j other))
      (λ h. let within = slice_get_within (keys ++ key ∷ []) j k other in
      omega (arith, lt, within, h.0, length-append keys (key ∷ [])))
      (get_either keys key k i one)

module _ {K : Type 0} (eq : K → K → Bool) (same : (a b : K) → eq a b ≡ true → a ≡ b) (itself : (a : K) → eq a a ≡ true) where
  pub all_distinct : (keys : List K) → IsDistinct eq keys → AreDistinct keys
  all_distinct keys distinct i j k lt one other =
      let apart = apart_from_distinct eq keys i j k distinct lt (slice_get_within keys j k other) in
      true≢false (sym (itself k) ∙ ap (λ z. eq z k) (sym (get_or_from_slice_get keys i k k one))
      ∙ ap (eq (get_or keys i k)) (sym (get_or_from_slice_get keys j k k other)) ∙ apart)

  pub not_there : (keys : List K) (key : K) → list_any (eq key) keys ≡ false → IsAbsent keys key
  not_there keys key none i at =
      let equal : eq key (get_or keys i key) ≡ true = ap (eq key) (get_or_from_slice_get keys i key key at) ∙ itself key in
      true≢false (sym (list_any_at (eq key) keys i key (slice_get_within keys i key at) equal) ∙ none)

  pub numbered_found : (keys : List K) (key : K) (i : ℕ) → IsDistinct eq keys → position (eq key) keys ≡ Some i → length keys ≤ most_sets →
      IsNumbered keys keys key i
  numbered_found keys key i distinct found few =
      let is = position-Some (eq key) keys i key found in
      record {
        at = slice_get-get_or keys i key is.0 ∙ ap Some (sym (same key (get_or keys i key) is.1));
        few = few;
        distinct = all_distinct keys distinct;
        grows = inl refl;
      }

  pub numbered_new : (keys new : List K) (key : K) (i : ℕ) → new ≡ keys ++ key ∷ [] →
      ((k : K) × (slice_get new i ≡ Some k) × (eq key k ≡ true)) →
      IsDistinct eq new → length keys ≤ most_sets → length keys ≢ most_sets → IsNumbered keys new key i
  numbered_new keys new key i added stored distinct few other = record {
    at = stored.1 ∙ ap Some (sym (same key stored.0 stored.2));
    few = ⊎_elim
        (λ lt. omega (arith, lt, ap length added, length-append keys (key ∷ [])))
        (λ le. absurd (other (omega (arith, few, le))))
        (cases_lt (length keys) most_sets);
    distinct = all_distinct new distinct;
    grows = inr added;
  }
