-- Lines of notes.
use Rattle.std.specs.Prelude.{ℕ, List, ◌++◌, codes}

-- lines with the end of the last one
abbrev pub ended : List ℕ → List ℕ
ended lines = lines ++ codes "\n"
