-- How live places go on, byte by byte. Here the places of a pattern have numbers from its last one, `base`, up to its first
-- one. What is live after the pattern is given by the numbers themselves.
use Rattle.std.specs.Prelude.{◌≡◌, ◌⊎◌, ℕ, ◌+◌, IsTrue}
use Rattle.rule_globs.specs.Glob.{Glob, empty, one, run, cat, none, alt, fits, places}

abbrev pub Numbers : Type 1
Numbers = ℕ → Type 0

-- what is live where the pattern begins, no byte being taken
abbrev pub Starts : Glob → ℕ → Numbers → Numbers
Starts empty base behind q = behind q
Starts (one set) base behind q = q ≡ base
Starts (run set) base behind q = (q ≡ base) ⊎ behind q
Starts (cat a b) base behind q = Starts a (base + places b) (Starts b base behind) q
Starts none base behind q = ⊥
Starts (alt a b) base behind q = Starts a (base + places b) behind q ⊎ Starts b base behind q

-- the place of this number takes the byte
abbrev pub TakesAt : Glob → ℕ → ℕ → ℕ → Type 0
TakesAt empty base p b = ⊥
TakesAt (one set) base p b = (p ≡ base) × IsTrue (fits set b)
TakesAt (run set) base p b = (p ≡ base) × IsTrue (fits set b)
TakesAt (cat first second) base p b = TakesAt first (base + places second) p b ⊎ TakesAt second base p b
TakesAt none base p b = ⊥
TakesAt (alt first second) base p b = TakesAt first (base + places second) p b ⊎ TakesAt second base p b

-- what is live once the place of this number has taken a byte
abbrev pub Goes : Glob → ℕ → Numbers → ℕ → Numbers
Goes empty base behind p q = ⊥
Goes (one set) base behind p q = (p ≡ base) × behind q
Goes (run set) base behind p q = (p ≡ base) × ((q ≡ base) ⊎ behind q)
Goes (cat a b) base behind p q = Goes a (base + places b) (Starts b base behind) p q ⊎ Goes b base behind p q
Goes none base behind p q = ⊥
Goes (alt a b) base behind p q = Goes a (base + places b) behind p q ⊎ Goes b base behind p q
