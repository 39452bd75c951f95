-- Sets of bytes as bits of words.
use Rattle.std.specs.Prelude.{◌≡◌, ℕ, ◌<◌, ◌≤◌, false, List}
use Rattle.glob_automaton.specs.inner.PlaceBits.{has_place}

-- the byte comes next: those from one on up to it aren't in the set
pub record IsNextByte (words : List ℕ) (from byte : ℕ) : Type 0 where
  pub after : from ≤ byte
  pub small : byte < 256
  pub none_before : (b : ℕ) → from ≤ b → b < byte → has_place words b ≡ false
