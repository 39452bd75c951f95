-- The names of a list, taken one by one from its front.
use Rattle.std.proofs.Common.{◌≡◌, ℕ, ◌+◌, ◌<◌, ◌≤◌, ◌==◌, Bool, true, false, cond, not, List, [], ◌∷◌, length, take, drop}
use Rattle.std.proofs.Common.{refl, ap, ◌∙◌, arith, suc}
use Rattle.std.specs.List.{onto_first, position_or_len}
use Rattle.trace_names.specs.NameLists.{names_of}

-- the byte ends a name
abbrev pub is_end : ℕ → ℕ → Bool
is_end end b = b == end

module _ (end : ℕ) where
  abbrev pub split_by : ℕ → List ℕ → Bool → List (List ℕ)
  split_by b list ends = cond ends ([] ∷ names_of end list) (onto_first b (names_of end list))

  -- the first name goes to the first end
  pub first_ends : (list : List ℕ) → position_or_len (is_end end) list < length list → names_of end list
      ≡ take (position_or_len (is_end end) list) list ∷ names_of end (drop (position_or_len (is_end end) list + 1) list)
  first_ends [] some = absurd (omega arith)
  first_ends (b ∷ list) some = by (first_ends list) (is_end end b) refl some
    where
      n : ℕ
      n = position_or_len (is_end end) list

      by : (n < length list → names_of end list ≡ take n list ∷ names_of end (drop (n + 1) list))
          → (ends : Bool) → is_end end b ≡ ends → cond (not ends) (1 + n) 0 < length (b ∷ list)
          → names_of end (b ∷ list) ≡ take (cond (not ends) (1 + n) 0) (b ∷ list)
          ∷ names_of end (drop (cond (not ends) (1 + n) 0 + 1) (b ∷ list))
      by rest true e some = ap (split_by b list) e
      by rest false e some =
          let next : suc n ≡ 1 + n = omega arith in
          let after : suc (n + 1) ≡ (1 + n) + 1 = omega arith in
          ap (split_by b list) e ∙ ap (onto_first b) (rest (omega arith))
          ∙ ap (λ k. take k (b ∷ list) ∷ names_of end (drop (n + 1) list)) next
          ∙ ap (λ k. take (1 + n) (b ∷ list) ∷ names_of end (drop k (b ∷ list))) after

  -- or it is the whole list, if that has no end
  pub all_is_one : (b : ℕ) (list : List ℕ) → length (b ∷ list) ≤ position_or_len (is_end end) (b ∷ list) →
      names_of end (b ∷ list) ≡ (b ∷ list) ∷ []
  all_is_one b [] none = by (is_end end b) refl none
    where
      by : (ends : Bool) → is_end end b ≡ ends → 1 ≤ cond (not ends) (1 + 0) 0 → names_of end (b ∷ []) ≡ (b ∷ []) ∷ []
      by true e h = absurd (omega arith)
      by false e h = ap (split_by b []) e
  all_is_one b (c ∷ list) none = by (all_is_one c list) (is_end end b) refl none
    where
      n : ℕ
      n = position_or_len (is_end end) (c ∷ list)

      by : (length (c ∷ list) ≤ n → names_of end (c ∷ list) ≡ (c ∷ list) ∷ [])
          → (ends : Bool) → is_end end b ≡ ends → length (b ∷ c ∷ list) ≤ cond (not ends) (1 + n) 0
          → names_of end (b ∷ c ∷ list) ≡ (b ∷ c ∷ list) ∷ []
      by rest true e h = absurd (omega arith)
      by rest false e h = ap (split_by b (c ∷ list)) e ∙ ap (onto_first b) (rest (omega arith))

  pub whole_is_one : (list : List ℕ) → 0 < length list → length list ≤ position_or_len (is_end end) list →
      names_of end list ≡ list ∷ []
  whole_is_one [] some none = absurd (omega arith)
  whole_is_one (b ∷ list) some none = all_is_one b list none
