-- What holds of each element of a list, one after another.
use Rattle.std.specs.Prelude.{List, [], ◌∷◌}

abbrev pub Each : {A : Type 0} → (A → Type 0) → List A → Type 0
Each valid [] = Unit {0}
Each valid (x ∷ xs) = valid x × Each valid xs
