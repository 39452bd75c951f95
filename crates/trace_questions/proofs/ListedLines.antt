-- Lines of names, one name after another.
use Rattle.std.proofs.Common.{◌≡◌, ◌∙◌, ℕ, ◌+◌, ◌<◌, ◌≤◌, List, [], ◌∷◌, ◌++◌, Vec, Global, length, take, get_or, sym, ap}
use Rattle.std.proofs.Common.{append_assoc, append-nil}
use Rattle.std.specs.List.{flat_map}
use Rattle.std.proofs.lemmas.List.{map-append, take_all, take_more}
use Rattle.std.proofs.lemmas.List.Concat.{flat_map-append}
use Rattle.question_answers.specs.LeastNames.{listed}

module _ (f : List ℕ → List ℕ) (names : List (Vec ℕ Global)) where
  -- the lines of the first names
  abbrev pub first_lines : ℕ → List ℕ
  first_lines count = flat_map f (listed (take count names))

  pub lines_more : (i : ℕ) (d : Vec ℕ Global) → i < length names →
      first_lines (i + 1) ≡ first_lines i ++ f (get_or names i d).items
  lines_more i d lt =
      ap (λ (them : List (Vec ℕ Global)). flat_map f (listed them)) (take_more names i d lt)
      ∙ ap (flat_map f) (map-append (λ (v : Vec ℕ Global). v.items) (take i names) (get_or names i d ∷ []))
      ∙ flat_map-append f (listed (take i names)) ((get_or names i d).items ∷ [])
      ∙ ap (λ (more : List ℕ). first_lines i ++ more) (append-nil (f (get_or names i d).items))

  pub lines_all : (count : ℕ) → length names ≤ count → first_lines count ≡ flat_map f (listed names)
  lines_all count past = ap (λ (them : List (Vec ℕ Global)). flat_map f (listed them)) (take_all count names past)

  -- the line of one more name was appended
  pub line_added : (start now new : List ℕ) (i : ℕ) (item : Vec ℕ Global) (name : List ℕ) → i < length names →
      item ≡ get_or names i item → name ≡ item.items → now ≡ start ++ first_lines i → new ≡ now ++ f name →
      new ≡ start ++ first_lines (i + 1)
  line_added start now new i item name lt is value so_far e =
      let line : first_lines i ++ f name ≡ first_lines (i + 1) =
      ap (λ (z : List ℕ). first_lines i ++ f z) (value ∙ ap (λ (v : Vec ℕ Global). v.items) is) ∙ sym (lines_more i item lt) in
      e ∙ ap (λ (z : List ℕ). z ++ f name) so_far ∙ append_assoc start (first_lines i) (f name) ∙ ap (λ (z : List ℕ). start ++ z) line
