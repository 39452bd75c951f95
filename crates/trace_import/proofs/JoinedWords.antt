-- Words joined by +, one more at a time.
use Rattle.std.proofs.Common.{Bool, true, false, List, [], ◌∷◌, ◌++◌, ℕ}
use Rattle.std.specs.Prelude.{codes}
use Rattle.apparmor_rules.specs.declared.what.What.{What}
use Rattle.apparmor_rules.specs.Whats.{joined}

-- what follows the words that were added, if some were
abbrev pub behind : Bool → List What → List ℕ
behind false whats = joined whats
behind true [] = []
behind true (w ∷ whats) = codes "+" ++ joined (w ∷ whats)
