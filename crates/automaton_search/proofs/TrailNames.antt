-- The names of trails, computed.
use Rattle.std.proofs.Common.{◌≡◌, ℕ, zero, suc, ◌+◌, ◌<◌, List, [], ◌∷◌, ◌++◌, length, Some, slice_get, slice_index_or}
use Rattle.std.proofs.Common.{refl, sym, ap, ◌∙◌, arith}
use Rattle.std.proofs.lemmas.List.{length-append}
use Rattle.std.proofs.lemmas.Option.{none-some, same_Some, slice_get-get_or}
use Rattle.automaton_search.specs.declared.walk.Trail.{Trail}
use Rattle.automaton_search.specs.inner.Trails.{AreNames, GoBack, names_from}
use Rattle.automaton_search.specs.laws.Lists.{get_stays, get_last}

-- the name of a trail after these names
abbrev named : List (List ℕ) → Trail → List ℕ
named names t = slice_index_or names t.parent [] ++ t.byte ∷ []

kept : (names : List (List ℕ)) (trails : List Trail) (j : ℕ) (name : List ℕ) → slice_get names j ≡ Some name →
    slice_get (names_from names trails) j ≡ Some name
kept names [] j name at = at
kept names (t ∷ trails) j name at = kept (names ++ named names t ∷ []) trails j name (get_stays names (named names t ∷ []) j name at)

pub names_long : (names : List (List ℕ)) (trails : List Trail) → length (names_from names trails) ≡ length names + length trails
names_long names [] = omega arith
names_long names (t ∷ trails) =
    let more = names_long (names ++ named names t ∷ []) trails in
    omega (arith, more, length-append names (named names t ∷ []))

later : (names : List (List ℕ)) (trails : List Trail) (k : ℕ) (t : Trail) → slice_get trails k ≡ Some t → t.parent < length names + k →
    (name : List ℕ) × (slice_get (names_from names trails) t.parent ≡ Some name)
    × (slice_get (names_from names trails) (length names + k) ≡ Some (name ++ t.byte ∷ []))
later names [] k t at lt = absurd (none-some t at)
later names (x ∷ trails) zero t at lt =
    let e : x ≡ t = same_Some x t at in
    let name = slice_index_or names t.parent [] in
    let there : slice_get names t.parent ≡ Some name = slice_get-get_or names t.parent [] (omega (arith, lt)) in
    let long : length names + 0 ≡ length names = omega arith in
    let new = names ++ named names x ∷ [] in (
      name,
      kept new trails t.parent name (get_stays names (named names x ∷ []) t.parent name there),
      ap (slice_get (names_from new trails)) long
          ∙ (kept new trails (length names) (named names x) (get_last names (named names x)) ∙ ap (λ (z : Trail). Some (named names z)) e),
    )
later names (x ∷ trails) (suc k) t at lt =
    let new = names ++ named names x ∷ [] in
    let one : length new ≡ length names + 1 = length-append names (named names x ∷ []) in
    let h = later new trails k t at (omega (arith, lt, one)) in
    let e : length new + k ≡ length names + suc k = omega (arith, one) in
    (h.0, h.1, ap (slice_get (names_from new trails)) (sym e) ∙ h.2)

first_name : (trails : List Trail) → 0 < length trails → ((t : Trail) → slice_get trails 0 ≡ Some t → t.byte ≡ 47) →
    slice_get (names_from [] trails) 0 ≡ Some (47 ∷ [])
first_name [] some slash = absurd (omega (arith, some))
first_name (x ∷ trails) some slash = kept (named [] x ∷ []) trails 0 (named [] x) refl ∙ ap (λ b. Some (b ∷ [])) (slash x refl)

from_none : (trails : List Trail) (j : ℕ) (t : Trail) → slice_get trails j ≡ Some t → t.parent < j →
    (name : List ℕ) × (slice_get (names_from [] trails) t.parent ≡ Some name)
    × (slice_get (names_from [] trails) j ≡ Some (name ++ t.byte ∷ []))
from_none trails j t at lt =
    let h = later [] trails j t at (omega (arith, lt)) in
    let e : 0 + j ≡ j = omega arith in
    (h.0, h.1, ap (slice_get (names_from [] trails)) (sym e) ∙ h.2)

pub are_named : (trails : List Trail) → 0 < length trails → GoBack trails → AreNames trails (names_from [] trails)
are_named trails some back = record {
  each = let long = names_long [] trails in omega (arith, long);
  first = first_name trails some back.0;
  later = λ j t some at. let lt = back.1 j t some at in (lt, from_none trails j t at lt);
}

-- by any names of the trails
pub goes_back : (trails : List Trail) (names : List (List ℕ)) → AreNames trails names → (j : ℕ) (t : Trail) → 0 < j →
    slice_get trails j ≡ Some t → t.parent < j
goes_back trails names are j t some at = (are.later j t some at).0

-- ---- trails have one list of names

same_list : (xs ys : List (List ℕ)) → length xs ≡ length ys → ((j : ℕ) → j < length xs → slice_get xs j ≡ slice_get ys j) → xs ≡ ys
same_list [] [] long same = refl
same_list [] (y ∷ ys) long same = absurd (omega (arith, long))
same_list (x ∷ xs) [] long same = absurd (omega (arith, long))
same_list (x ∷ xs) (y ∷ ys) long same =
    ap (λ z. z ∷ xs) (same_Some x y (same 0 (omega arith)))
    ∙ ap (λ z. y ∷ z) (same_list xs ys (omega (arith, long)) (λ j lt. same (suc j) (omega (arith, lt))))

module _ (trails : List Trail) (names others : List (List ℕ)) (one : AreNames trails names) (two : AreNames trails others) where
  same_later : (j : ℕ) (t : Trail) (name other : List ℕ) → slice_get names t.parent ≡ Some name → slice_get others t.parent ≡ Some other →
      slice_get names t.parent ≡ slice_get others t.parent → name ++ t.byte ∷ [] ≡ other ++ t.byte ∷ []
  same_later j t name other at there same = ap (λ z. z ++ t.byte ∷ []) (same_Some name other (sym at ∙ same ∙ there))

  same_below : (k j : ℕ) → j < k → j < length trails → slice_get names j ≡ slice_get others j
  same_below zero j lt there = absurd (omega (arith, lt))
  same_below (suc k) zero lt there = one.first ∙ sym two.first
  same_below (suc k) (suc j) lt there =
      let t : Trail = slice_index_or trails (suc j) (record { parent = 0; byte = 0 }) in
      let at : slice_get trails (suc j) ≡ Some t = slice_get-get_or trails (suc j) (record { parent = 0; byte = 0 }) there in
      let h = one.later (suc j) t (omega arith) at in
      let g = two.later (suc j) t (omega arith) at in
      let same = same_below k t.parent (omega (arith, lt, h.0)) (omega (arith, there, h.0)) in
      h.1.2 ∙ ap Some (same_later (suc j) t h.1.0 g.1.0 h.1.1 g.1.1 same) ∙ sym g.1.2

  pub same_names : names ≡ others
  same_names = same_list names others (one.each ∙ sym two.each)
      (λ j lt. same_below (suc j) j (omega arith) (omega (arith, lt, one.each)))
