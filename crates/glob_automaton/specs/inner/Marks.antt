-- The bytes at which the targets of a set may change.
use Rattle.std.specs.Prelude.{◌≡◌, ℕ, ◌-◌, ◌<◌, false, List, length}
use Rattle.glob_automaton.specs.declared.marks.Marks.{Marks}
use Rattle.glob_automaton.specs.inner.Alike.{AreLike}
use Rattle.glob_automaton.specs.inner.PlaceBits.{has_place}

-- each byte that isn't an edge is like the byte before it
pub record AreMarks (least : List ℕ) (marks : Marks) : Type 0 where
  pub long : length marks.named ≡ 256
  pub like : (b : ℕ) → 0 < b → b < 256 → has_place marks.edges.words b ≡ false → AreLike least marks.named (b - 1) b
