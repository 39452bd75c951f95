-- Lists of names that are joined again.
use Rattle.std.proofs.Common.{◌≡◌, ◌≢◌, ◌⊎◌, ℕ, ◌<◌, Bool, true, false, List, [], ◌∷◌, ◌++◌, length}
use Rattle.std.proofs.Common.{refl, sym, ap, ◌∙◌, subst, inl, inr, arith}
use Rattle.std.specs.List.{All, onto_first}
use Rattle.std.proofs.lemmas.Bool.{eqb-true, eqb-false, eq-eqb, ne_eqb}
use Rattle.std.proofs.lemmas.List.Elements.{All-nil, All-cons, All-head, All-tail}
use Rattle.trace_names.specs.NameLists.{list_of, names_of}
use Rattle.trace_names.proofs.Lists.{is_end, split_by}

module _ (end : ℕ) where
  -- a list that isn't empty has a name
  onto_has_one : (b : ℕ) (names : List (List ℕ)) → 0 < length (onto_first b names)
  onto_has_one b [] = omega arith
  onto_has_one b (name ∷ names) = omega arith

  has_one : (b : ℕ) (list : List ℕ) → 0 < length (names_of end (b ∷ list))
  has_one b list = by (is_end end b) refl
    where
      by : (ends : Bool) → is_end end b ≡ ends → 0 < length (names_of end (b ∷ list))
      by true e = subst (λ (names : List (List ℕ)). 0 < length names) (sym (ap (split_by end b list) e)) (omega arith)
      by false e = subst (λ (names : List (List ℕ)). 0 < length names) (sym (ap (split_by end b list) e))
          (onto_has_one b (names_of end list))

  -- a byte at the front of the first name is at the front of the list
  onto_joined : (b : ℕ) (names : List (List ℕ)) → 0 < length names → list_of end (onto_first b names) ≡ b ∷ list_of end names
  onto_joined b [] some = absurd (omega arith)
  onto_joined b (name ∷ names) some = refl

  abbrev IsJoined : List ℕ → List ℕ → Type 0
  IsJoined joined list = (joined ≡ list) ⊎ (joined ≡ list ++ end ∷ [])

  with_front : (b : ℕ) (joined list : List ℕ) → IsJoined joined list → IsJoined (b ∷ joined) (b ∷ list)
  with_front b joined list (inl e) = inl (ap (λ l. b ∷ l) e)
  with_front b joined list (inr e) = inr (ap (λ l. b ∷ l) e)

  ended : (b : ℕ) (list : List ℕ) → is_end end b ≡ true → list_of end (names_of end (b ∷ list)) ≡ b ∷ list_of end (names_of end list)
  ended b list e = ap (λ ends. list_of end (split_by end b list ends)) e
      ∙ ap (λ x. x ∷ list_of end (names_of end list)) (sym (eqb-true b end e))

  pub joined_again : (list : List ℕ) → IsJoined (list_of end (names_of end list)) list
  joined_again [] = inl refl
  joined_again (b ∷ []) = by (is_end end b) refl
    where
      by : (ends : Bool) → is_end end b ≡ ends → IsJoined (list_of end (names_of end (b ∷ []))) (b ∷ [])
      by true e = inl (ended b [] e)
      by false e = inr (ap (λ ends. list_of end (split_by end b [] ends)) e)
  joined_again (b ∷ c ∷ list) = by (joined_again (c ∷ list)) (is_end end b) refl
    where
      by : IsJoined (list_of end (names_of end (c ∷ list))) (c ∷ list) → (ends : Bool) → is_end end b ≡ ends
          → IsJoined (list_of end (names_of end (b ∷ c ∷ list))) (b ∷ c ∷ list)
      by rest true e = subst (λ (joined : List ℕ). IsJoined joined (b ∷ c ∷ list)) (sym (ended b (c ∷ list) e))
          (with_front b (list_of end (names_of end (c ∷ list))) (c ∷ list) rest)
      by rest false e = subst (λ (joined : List ℕ). IsJoined joined (b ∷ c ∷ list))
          (sym (ap (λ ends. list_of end (split_by end b (c ∷ list) ends)) e ∙ onto_joined b (names_of end (c ∷ list)) (has_one c list)))
          (with_front b (list_of end (names_of end (c ∷ list))) (c ∷ list) rest)

  -- ---- no name has the byte that ends names

  abbrev pub IsEndless : List ℕ → Type 0
  IsEndless name = All (λ b. b ≢ end) name

  onto_endless : (b : ℕ) (names : List (List ℕ)) → b ≢ end → All IsEndless names → All IsEndless (onto_first b names)
  onto_endless b [] other all =
      All-cons IsEndless (b ∷ []) [] (All-cons (λ b. b ≢ end) b [] other (All-nil (λ b. b ≢ end))) (All-nil IsEndless)
  onto_endless b (name ∷ names) other all =
      All-cons IsEndless (b ∷ name) names (All-cons (λ b. b ≢ end) b name other (All-head IsEndless name names all))
      (All-tail IsEndless name names all)

  pub names_endless : (list : List ℕ) → All IsEndless (names_of end list)
  names_endless [] = All-nil IsEndless
  names_endless (b ∷ list) = by (names_endless list) (is_end end b) refl
    where
      by : All IsEndless (names_of end list) → (ends : Bool) → is_end end b ≡ ends → All IsEndless (names_of end (b ∷ list))
      by rest true e = subst (All IsEndless) (sym (ap (split_by end b list) e))
          (All-cons IsEndless [] (names_of end list) (All-nil (λ b. b ≢ end)) rest)
      by rest false e = subst (All IsEndless) (sym (ap (split_by end b list) e))
          (onto_endless b (names_of end list) (eqb-false b end e) rest)

  -- ---- names that are joined are parted again

  front_parted : (name list : List ℕ) → IsEndless name → names_of end ((name ++ end ∷ []) ++ list) ≡ name ∷ names_of end list
  front_parted [] list endless = ap (split_by end end list) (eq-eqb end end refl)
  front_parted (b ∷ name) list endless =
      ap (split_by end b ((name ++ end ∷ []) ++ list)) (ne_eqb b end (All-head (λ b. b ≢ end) b name endless))
      ∙ ap (onto_first b) (front_parted name list (All-tail (λ b. b ≢ end) b name endless))

  pub parted_again : (names : List (List ℕ)) → All IsEndless names → names_of end (list_of end names) ≡ names
  parted_again [] endless = refl
  parted_again (name ∷ names) endless =
      front_parted name (list_of end names) (All-head IsEndless name names endless)
      ∙ ap (λ rest. name ∷ rest) (parted_again names (All-tail IsEndless name names endless))
