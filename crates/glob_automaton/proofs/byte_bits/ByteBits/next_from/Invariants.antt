-- No byte from the first one up to here is in the set.
use Rattle.std.proofs.Common.{◌≡◌, ◌-◌, ◌<◌, ◌≤◌, ℕ, false}
use Rattle.glob_automaton.specs.inner.PlaceBits.{has_place}
use Rattle.glob_automaton.proofs.byte_bits.ByteBits.next_from.Given as goal

abbrev pub invariant-loop-at : goal.invariant-loop-at
invariant-loop-at l = record {
  after : l.from ≤ l.at;
  none : (b : ℕ) → l.from ≤ b → b < l.at → has_place l.self.words b ≡ false;
}

abbrev pub decreases-loop-at : goal.decreases-loop-at
decreases-loop-at l = 256 - l.at
