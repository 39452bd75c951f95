-- The slots so far are in the set.
use Rattle.std.proofs.Common.{◌≡◌, ◌↔◌, ℕ, ◌+◌, ◌/◌, ◌<◌, length}
use Rattle.row_tally.specs.Bits.{bit_in}
use Rattle.row_tally.proofs.free_slots.FreeSlots.past_root.Given as goal

abbrev pub invariant-loop-slot : goal.invariant-loop-slot
invariant-loop-slot l = record {
  long : length l.free ≡ l.slots / 64 + 1;
  slots : (s : ℕ) → (bit_in l.free s ≡ 1) ↔ ((0 < s) × (s < l.slot));
}
