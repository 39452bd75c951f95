-- Numbers with a comma and a space between each two, one more at a time.
use Rattle.std.proofs.Common.{Bool, true, false, List, [], ◌∷◌, ◌++◌, ℕ}
use Rattle.std.specs.Prelude.{codes}
use Rattle.trace_audit.specs.Lines.{numbers_text}

-- what follows the numbers that were added, if some were
abbrev pub behind : Bool → List ℕ → List ℕ
behind false numbers = numbers_text numbers
behind true [] = []
behind true (n ∷ numbers) = codes ", " ++ numbers_text (n ∷ numbers)
