-- Names that are chosen, and what is written of them.
use Rattle.std.proofs.Common.{◌≡◌, ℕ, Bool, true, false, cond, not, List, [], ◌∷◌, ◌++◌, append-nil, refl, ap, ◌∙◌}
use Rattle.std.specs.List.{filter, flat_map}
use Rattle.std.specs.List.Sorted.{IsPermutation}
use Rattle.std.proofs.lemmas.List.Sorted.{IsPermutation-cons, IsPermutation-middle, IsPermutation-refl, IsPermutation-sym}
use Rattle.std.proofs.lemmas.List.Sorted.{IsPermutation-trans}
use Rattle.trace_names.specs.NameLists.{list_of}

module _ {X : Type 0} (test : X → Bool) where
  abbrev failing : List X → List X
  failing xs = filter (λ x. not (test x)) xs

  -- the texts of what passes are the texts of all, if what doesn't pass has none
  pub texts_of_passing : (text : X → List ℕ) (xs : List X) → flat_map text (filter test xs)
      ≡ flat_map (λ x. cond (test x) (text x) []) xs
  texts_of_passing text [] = refl
  texts_of_passing text (x ∷ xs) = by (texts_of_passing text xs) (test x)
    where
      by : flat_map text (filter test xs) ≡ flat_map (λ x. cond (test x) (text x) []) xs → (passes : Bool)
          → flat_map text (cond passes (x ∷ filter test xs) (filter test xs))
          ≡ cond passes (text x) [] ++ flat_map (λ x. cond (test x) (text x) []) xs
      by rest true = ap (λ l. text x ++ l) rest
      by rest false = rest

  -- what passes and what doesn't are together all
  pub all_together : (xs : List X) → IsPermutation xs (filter test xs ++ failing xs)
  all_together [] = IsPermutation-refl []
  all_together (x ∷ xs) = by (all_together xs) (test x)
    where
      by : IsPermutation xs (filter test xs ++ failing xs) → (passes : Bool)
          → IsPermutation (x ∷ xs) (cond passes (x ∷ filter test xs) (filter test xs) ++ cond (not passes) (x ∷ failing xs) (failing xs))
      by rest true = IsPermutation-cons x xs (filter test xs ++ failing xs) rest
      by rest false = IsPermutation-trans (x ∷ xs) (x ∷ (filter test xs ++ failing xs)) (filter test xs ++ x ∷ failing xs)
          (IsPermutation-cons x xs (filter test xs ++ failing xs) rest)
          (IsPermutation-sym (filter test xs ++ x ∷ failing xs) (x ∷ (filter test xs ++ failing xs))
          (IsPermutation-middle (filter test xs) x (failing xs)))

  -- nothing that passes fails
  pub none_of_both : (xs : List X) → failing (filter test xs) ≡ []
  none_of_both [] = refl
  none_of_both (x ∷ xs) = by (none_of_both xs) (test x) refl
    where
      by : failing (filter test xs) ≡ [] → (passes : Bool) → test x ≡ passes
          → failing (cond passes (x ∷ filter test xs) (filter test xs)) ≡ []
      by rest true e = ap (λ passes. cond (not passes) (x ∷ failing (filter test xs)) (failing (filter test xs))) e ∙ rest
      by rest false e = rest

pub each_passes : {X : Type 0} (xs : List X) → filter (λ x. true) xs ≡ xs
each_passes [] = refl
each_passes (x ∷ xs) = ap (λ l. x ∷ l) (each_passes xs)

-- names that are written without verdicts are joined
pub plain_texts : (end : ℕ) (verdicts : Bool) (after : List ℕ → List ℕ) (names : List (List ℕ)) → verdicts ≡ false →
    flat_map (λ name. name ++ cond verdicts (after name) [] ++ end ∷ []) names ≡ list_of end names
plain_texts end true after names e = absurd (cc)
plain_texts end false after [] e = refl
plain_texts end false after (name ∷ names) e =
    ap (λ front. (front ++ end ∷ []) ++ flat_map (λ name. name ++ cond false (after name) [] ++ end ∷ []) names) (append-nil name)
    ∙ ap (λ rest. (name ++ end ∷ []) ++ rest) (plain_texts end false after names e)
