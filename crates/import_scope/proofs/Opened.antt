-- Profiles that are open, the innermost last or first.
use Rattle.std.proofs.Common.{◌≡◌, ℕ, ◌-◌, List, [], ◌∷◌, ◌++◌, length, reverse, Some, refl, sym, ap, ◌∙◌, arith}
use Rattle.std.specs.Prelude.{slice_get}
use Rattle.std.proofs.lemmas.List.{reverse-append, reverse-reverse, length-append}
use Rattle.import_scope.specs.Scopes.{first_number}

last_there : (xs : List ℕ) (x : ℕ) → slice_get (xs ++ x ∷ []) (length xs) ≡ Some x
last_there [] x = refl
last_there (y ∷ xs) x = last_there xs x

last_of_reversed : (ys : List ℕ) → slice_get (reverse ys) (length (reverse ys) - 1) ≡ first_number ys
last_of_reversed [] = refl
last_of_reversed (y ∷ ys) =
    let cut : reverse (y ∷ ys) ≡ reverse ys ++ y ∷ [] = reverse-append (y ∷ []) ys in
    let count : length (reverse ys ++ y ∷ []) - 1 ≡ length (reverse ys) = let h = length-append (reverse ys) (y ∷ []) in
    omega (arith, h) in
    ap (λ (zs : List ℕ). slice_get zs (length zs - 1)) cut ∙ ap (slice_get (reverse ys ++ y ∷ [])) count ∙ last_there (reverse ys) y

pub last_is_innermost : (xs : List ℕ) → slice_get xs (length xs - 1) ≡ first_number (reverse xs)
last_is_innermost xs = ap (λ (zs : List ℕ). slice_get zs (length zs - 1)) (sym (reverse-reverse xs)) ∙ last_of_reversed (reverse xs)
