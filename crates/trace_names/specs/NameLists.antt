-- Lists of names, each ended by a byte. Our own; with a line feed a list is what find(1) writes with `-print`, with the byte 0 what it
-- writes with `-print0`.
use Rattle.std.specs.Prelude.{ℕ, ◌==◌, List, [], ◌∷◌, ◌++◌, if◌then◌else◌}
use Rattle.std.specs.List.{flat_map, onto_first}

-- the names of a list, without their ends; the last may lack its end
abbrev pub names_of : ℕ → List ℕ → List (List ℕ)
names_of end [] = []
names_of end (b ∷ list) = if b == end then [] ∷ names_of end list else onto_first b (names_of end list)

-- a list of these names, in which each has its end
abbrev pub list_of : ℕ → List (List ℕ) → List ℕ
list_of end names = flat_map (λ name. name ++ end ∷ []) names
