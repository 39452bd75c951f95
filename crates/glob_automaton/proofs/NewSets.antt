-- One new set after another is looked for, among what one more byte leads to.
use Rattle.std.proofs.Common.{◌≡◌, ℕ, zero, suc, ◌+◌, ◌<◌, ◌⊎◌, inl, inr, ⊎_elim, List, [], ◌∷◌, ◌++◌, length, slice_index_or, All, refl}
use Rattle.std.proofs.Common.{arith}
use Rattle.std.proofs.lemmas.Bool.{cases_lt}
use Rattle.std.proofs.lemmas.List.Elements.{All-nil, All-cons, All-push}
use Rattle.rule_profile.specs.Profile.{RuleValue}
use Rattle.glob_automaton.specs.Sets.{SameSet, NoneLive, IsPrefixOfName, AreDifferent}
use Rattle.glob_automaton.proofs.Decisions.{all_or_some}
use Rattle.glob_automaton.proofs.LiveByParts.{LeftFirst}
use Rattle.glob_automaton.proofs.LiveTests.{TakesByCuts, decided_none, decided_same_set}

-- one of the prefixes has the same set
abbrev pub IsMet : List RuleValue → List (List ℕ) → List ℕ → Type 0
IsMet rules prefixes x = (j : ℕ) × (j < length prefixes) × SameSet rules x (slice_index_or prefixes j [])

-- none has
abbrev pub IsUnmet : List RuleValue → List (List ℕ) → List ℕ → Type 0
IsUnmet rules prefixes x = (j : ℕ) → j < length prefixes → ¬ (SameSet rules x (slice_index_or prefixes j []))

-- the set is counted: it is empty, or one of the prefixes has it
abbrev pub IsCounted : List RuleValue → List (List ℕ) → List ℕ → Type 0
IsCounted rules prefixes x = NoneLive rules x ⊎ IsMet rules prefixes x

abbrev pub IsNew : List RuleValue → List (List ℕ) → List ℕ → Type 0
IsNew rules prefixes x = (¬ (NoneLive rules x)) × IsUnmet rules prefixes x

-- the byte leads from the prefix at this index to a new set
abbrev IsNext : List RuleValue → List (List ℕ) → ℕ → ℕ → Type 0
IsNext rules prefixes j b = (0 < b) × IsNew rules prefixes (slice_index_or prefixes j [] ++ b ∷ [])

-- The prefixes are different, and none is without bytes. (A prefix without bytes goes on by a slash alone, and all others by
-- any byte but 0.)
pub record AreFound (rules : List RuleValue) (prefixes : List (List ℕ)) : Type 0 where
  pub different : AreDifferent rules prefixes
  pub some_bytes : All (λ x. 0 < length x) prefixes

-- no byte leads from these prefixes to a set that isn't counted
pub record AreClosed (rules : List RuleValue) (prefixes : List (List ℕ)) : Type 0 where
  pub begins : IsCounted rules prefixes (47 ∷ [])
  pub goes_on : (j : ℕ) → j < length prefixes → (b : ℕ) → b < 256 → 0 < b →
      IsCounted rules prefixes (slice_index_or prefixes j [] ++ b ∷ [])

-- a prefix with a byte goes on by any byte but 0
longer : (x : List ℕ) (b : ℕ) → IsPrefixOfName x → 0 < length x → 0 < b → b < 256 → IsPrefixOfName (x ++ b ∷ [])
longer [] b h some above below = absurd (omega (arith, some))
longer (c ∷ more) b h some above below = (h.0, All-push (λ d. (0 < d) × (d < 256)) more b h.1 (above, below))

longer_some : (x : List ℕ) (b : ℕ) → 0 < length (x ++ b ∷ [])
longer_some [] b = omega arith
longer_some (c ∷ more) b = omega arith

-- one new prefix more
pub one_more : (rules : List RuleValue) (prefixes : List (List ℕ)) (x : List ℕ) → AreDifferent rules prefixes → IsPrefixOfName x →
    IsNew rules prefixes x →
    AreDifferent rules (x ∷ prefixes)
one_more rules prefixes x h name is_new = record {
  prefixes_of_names = All-cons IsPrefixOfName x prefixes name h.prefixes_of_names;
  some_live = All-cons (λ bytes. ¬ (NoneLive rules bytes)) x prefixes is_new.0 h.some_live;
  different = differ;
}
  where
    differ : (i j : ℕ) → i < j → j < length (x ∷ prefixes) →
        ¬ (SameSet rules (slice_index_or (x ∷ prefixes) i []) (slice_index_or (x ∷ prefixes) j []))
    differ i zero lt within same = omega (arith, lt)
    differ zero (suc j) lt within same = is_new.1 j (omega (arith, within)) same
    differ (suc i) (suc j) lt within same = h.different i j (omega (arith, lt)) (omega (arith, within)) same

found_more : (rules : List RuleValue) (prefixes : List (List ℕ)) (x : List ℕ) → AreFound rules prefixes → IsPrefixOfName x → 0 < length x →
    IsNew rules prefixes x → AreFound rules (x ∷ prefixes)
found_more rules prefixes x h name some is_new = record {
  different = one_more rules prefixes x h.different name is_new;
  some_bytes = All-cons (λ z. 0 < length z) x prefixes some h.some_bytes;
}

module _ (by_cuts : TakesByCuts) (by_steps : LeftFirst) (rules : List RuleValue) where
  pub met_or_not : (prefixes : List (List ℕ)) (x : List ℕ) → IsMet rules prefixes x ⊎ IsUnmet rules prefixes x
  met_or_not prefixes x = ⊎_elim (λ none. inr none) (λ some. inl some)
      (all_or_some (λ j. ¬ (SameSet rules x (slice_index_or prefixes j []))) (λ j. SameSet rules x (slice_index_or prefixes j []))
      (length prefixes) (λ j lt. ⊎_elim (λ h. inr h) (λ h. inl h)
      (decided_same_set by_cuts by_steps rules x (slice_index_or prefixes j []))))

  pub counted_or_new : (prefixes : List (List ℕ)) (x : List ℕ) → IsCounted rules prefixes x ⊎ IsNew rules prefixes x
  counted_or_new prefixes x = ⊎_elim
      (λ none. inl (inl none))
      (λ some. ⊎_elim (λ met. inl (inr met)) (λ unmet. inr (some, unmet)) (met_or_not prefixes x))
      (decided_none by_cuts by_steps rules x)

  -- ---- the next new set

  next_byte : (prefixes : List (List ℕ)) (j : ℕ) →
      ((b : ℕ) → b < 256 → 0 < b → IsCounted rules prefixes (slice_index_or prefixes j [] ++ b ∷ []))
      ⊎ ((b : ℕ) × (b < 256) × IsNext rules prefixes j b)
  next_byte prefixes j =
      all_or_some (λ b. 0 < b → IsCounted rules prefixes (slice_index_or prefixes j [] ++ b ∷ [])) (IsNext rules prefixes j) 256
      (λ b lt. ⊎_elim
      (λ zero_byte. inl (λ above. absurd (omega (arith, zero_byte, above))))
      (λ above. ⊎_elim (λ h. inl (λ t. h)) (λ h. inr (omega (arith, above), h))
      (counted_or_new prefixes (slice_index_or prefixes j [] ++ b ∷ [])))
      (cases_lt b 1))

  find_new : (prefixes : List (List ℕ)) → AreFound rules prefixes →
      AreClosed rules prefixes ⊎ ((x : List ℕ) × AreFound rules (x ∷ prefixes))
  find_new prefixes h = ⊎_elim
      (λ begun. ⊎_elim
      (λ all. inl (record { begins = begun; goes_on = all }))
      (λ some.
      let x : List ℕ = slice_index_or prefixes some.0 [] in
      let b : ℕ = some.2.0 in
      let name : IsPrefixOfName (x ++ b ∷ []) =
      longer x b (h.different.prefixes_of_names some.0 [] some.1) (h.some_bytes some.0 [] some.1) some.2.2.0 some.2.1 in
      inr (x ++ b ∷ [], found_more rules prefixes (x ++ b ∷ []) h name (longer_some x b) some.2.2.1))
      (all_or_some (λ j. (b : ℕ) → b < 256 → 0 < b → IsCounted rules prefixes (slice_index_or prefixes j [] ++ b ∷ []))
      (λ j. (b : ℕ) × (b < 256) × IsNext rules prefixes j b) (length prefixes) (λ j lt. next_byte prefixes j)))
      (λ slash. inr (47 ∷ [], found_more rules prefixes (47 ∷ []) h (refl, All-nil (λ c. (0 < c) × (c < 256))) (omega arith) slash))
      (counted_or_new prefixes (47 ∷ []))

  -- `fuel` more new sets, or all that there are
  pub search_on : (fuel : ℕ) (prefixes : List (List ℕ)) → AreFound rules prefixes →
      ((found : List (List ℕ)) × AreFound rules found × (length found ≡ fuel + length prefixes))
      ⊎ ((found : List (List ℕ)) × AreFound rules found × AreClosed rules found)
  search_on zero prefixes h = inl (prefixes, h, omega arith)
  search_on (suc fuel) prefixes h = ⊎_elim
      (λ closed. inr (prefixes, h, closed))
      (λ more. ⊎_elim
      (λ t. inl (t.0, t.1, omega (arith, t.2)))
      (λ t. inr t)
      (search_on fuel (more.0 ∷ prefixes) more.1))
      (find_new prefixes h)
