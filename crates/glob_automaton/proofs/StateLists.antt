-- The sets so far as a list: where a set is in it, and what it is with one more.
use Rattle.std.specs.Cmp.Lexicographic.{pointwise, same_text}
use Rattle.std.proofs.Common.{◌≡◌, ◌≢◌, inl, inr, ⊎_elim, ℕ, ◌+◌, ◌<◌, ◌≤◌, Bool, true, false, true≢false, nat_eq, List, [], ◌∷◌, ◌++◌}
use Rattle.std.proofs.Common.{length, map, Some, slice_get, get_or, refl, sym, ap, ◌∙◌, arith}
use Rattle.std.specs.List.{Contains, IsDistinct, list_any, position}
use Rattle.std.proofs.lemmas.List.{length-map, get_or-map, get_or_default}
use Rattle.std.proofs.lemmas.Bool.{cases_lt}
use Rattle.std.proofs.lemmas.Cmp.{nat_list_eq_equiv}
use Rattle.std.proofs.lemmas.List.Folds.{list_any_at}
use Rattle.std.proofs.lemmas.List.Quantifiers.{position-Some}
use Rattle.std.proofs.lemmas.Option.{slice_get_cases, slice_get_within, get_or_from_slice_get}
use Rattle.std.proofs.lemmas.Map.Keys.{apart_from_distinct}
use Rattle.automaton_rows.specs.Automata.{most_sets}
use Rattle.glob_automaton.specs.inner.States.{AreDistinct, IsNumbered}

module _ {V : Type 0} (items : V → List ℕ) (eq : List ℕ → List ℕ → Bool) (same : (a b : List ℕ) → eq a b ≡ true → a ≡ b)
    (itself : (a : List ℕ) → eq a a ≡ true) where
  -- what is at an index
  key_at : (keys : List V) (i : ℕ) → i < length keys → (v : V) × (slice_get keys i ≡ Some v)
  key_at keys i lt = ⊎_elim
      (λ h. (h.0, h.2))
      (λ h. absurd (omega (arith, h.0, lt)))
      (slice_get_cases keys i).1

  -- the list of a key
  list_at : (keys : List V) (i : ℕ) (v : V) → slice_get keys i ≡ Some v → get_or (map items keys) i [] ≡ items v
  list_at keys i v at =
      get_or-map items keys i v [] (slice_get_within keys i v at) ∙ ap items (get_or_from_slice_get keys i v v at)

  -- the keys' lists are different from each other
  pub all_distinct : (keys : List V) → IsDistinct (λ x y. eq (items x) (items y)) keys → AreDistinct (map items keys)
  all_distinct keys distinct i j lt within same_lists =
      let below : j < length keys = omega (arith, within, length-map keys items) in
      let one = key_at keys i (omega (arith, lt, below)) in
      let other = key_at keys j below in
      let apart = apart_from_distinct (λ x y. eq (items x) (items y)) keys i j one.0 distinct lt below in
      let first : get_or keys i one.0 ≡ one.0 = get_or_from_slice_get keys i one.0 one.0 one.1 in
      let second : get_or keys j one.0 ≡ other.0 = get_or_from_slice_get keys j other.0 one.0 other.1 in
      let equal : items one.0 ≡ items other.0 = sym (list_at keys i one.0 one.1) ∙ same_lists ∙ list_at keys j other.0 other.1 in
      true≢false (sym (itself (items one.0)) ∙ ap (eq (items one.0)) equal ∙ ap (λ z. eq (items one.0) (items z)) (sym second)
      ∙ ap (λ z. eq (items z) (items (get_or keys j one.0))) (sym first) ∙ apart)

  -- a set that no key equals isn't in the list
  pub not_there : (keys : List V) (set : List ℕ) → list_any (λ k. eq set (items k)) keys ≡ false → ¬ (Contains (map items keys) set)
  not_there keys set none h =
      let below : h.0 < length keys = omega (arith, h.1, length-map keys items) in
      let key = key_at keys h.0 below in
      let equal : set ≡ items key.0 = sym h.2 ∙ get_or_default (map items keys) h.0 set [] h.1 ∙ list_at keys h.0 key.0 key.1 in
      let found : eq set (items (get_or keys h.0 key.0)) ≡ true =
      ap (λ z. eq set (items z)) (get_or_from_slice_get keys h.0 key.0 key.0 key.1) ∙ ap (eq set) (sym equal) ∙ itself set in
      true≢false (sym (list_any_at (λ k. eq set (items k)) keys h.0 key.0 below found) ∙ none)

  -- a set that is found has its number
  pub numbered_found : (keys : List V) (set : List ℕ) (i : ℕ) → IsDistinct (λ x y. eq (items x) (items y)) keys →
      position (λ k. eq set (items k)) keys ≡ Some i → i < length keys → length (map items keys) ≤ most_sets →
      IsNumbered (map items keys) (map items keys) set i
  numbered_found keys set i distinct found within few =
      let key = key_at keys i within in
      let is = position-Some (λ k. eq set (items k)) keys i key.0 found in
      record {
        there = omega (arith, within, length-map keys items);
        at = list_at keys i key.0 key.1
            ∙ sym (same set (items key.0) (ap (λ z. eq set (items z)) (sym (get_or_from_slice_get keys i key.0 key.0 key.1)) ∙ is.1));
        few = few;
        distinct = all_distinct keys distinct;
        grows = inl refl;
      }

  map_behind : (keys : List V) (v : V) → map items (keys ++ v ∷ []) ≡ map items keys ++ items v ∷ []
  map_behind [] v = refl
  map_behind (k ∷ keys) v = ap (λ z. items k ∷ z) (map_behind keys v)

  length_behind : (keys : List V) (v : V) → length (keys ++ v ∷ []) ≡ length keys + 1
  length_behind [] v = refl
  length_behind (k ∷ keys) v = omega (arith, length_behind keys v)

  -- a set that is put after the others has its number
  pub numbered_new : (keys new : List V) (set : List ℕ) (v : V) (i : ℕ) → items v ≡ set → new ≡ keys ++ v ∷ [] →
      ((k : V) × (slice_get new i ≡ Some k) × (eq (items v) (items k) ≡ true)) →
      IsDistinct (λ x y. eq (items x) (items y)) new → list_any (λ k. eq set (items k)) keys ≡ false →
      length (map items keys) ≤ most_sets → length (map items keys) ≢ most_sets →
      IsNumbered (map items keys) (map items new) set i
  numbered_new keys new set v i holds added stored distinct none few other =
      let long : length new ≡ length keys + 1 = ap length added ∙ length_behind keys v in
      let within = slice_get_within new i stored.0 stored.1 in
      record {
        there = omega (arith, within, length-map new items);
        at = list_at new i stored.0 stored.1 ∙ sym (same (items v) (items stored.0) stored.2) ∙ holds;
        few = ⊎_elim
            (λ lt. omega (arith, lt, long, length-map new items, length-map keys items))
            (λ le. absurd (other (omega (arith, few, le))))
            (cases_lt (length (map items keys)) most_sets);
        distinct = all_distinct new distinct;
        grows = inr (ap (map items) added ∙ map_behind keys v ∙ ap (λ z. map items keys ++ z ∷ []) holds, not_there keys set none);
      }

-- equal lists of numbers are one list
pub same_numbers : (a b : List ℕ) → pointwise nat_eq a b ≡ true → a ≡ b
same_numbers a b is = same_text a b (sym is)

-- a list of numbers is equal to itself
pub equal_itself : (a : List ℕ) → pointwise nat_eq a a ≡ true
equal_itself a = nat_list_eq_equiv.refl a
