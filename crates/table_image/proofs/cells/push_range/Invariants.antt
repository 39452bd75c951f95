-- The bytes so far are there, with the target.
use Rattle.std.proofs.Common.{◌≡◌, ◌⊎◌, ◌<◌, ◌≤◌, ℕ, slice_index_or, length}
use Rattle.std.specs.List.{Contains}
use Rattle.table_image.proofs.cells.push_range.Given as goal

abbrev pub invariant-loop-byte : goal.invariant-loop-byte
invariant-loop-byte l = record {
  wide : length l.targets ≡ 256;
  kept : (b : ℕ) → Contains l.fn.bytes.items b → Contains l.bytes.items b;
  added : (b : ℕ) → Contains l.bytes.items b → Contains l.fn.bytes.items b ⊎ ((l.first ≤ b) × (b < l.byte));
  within : (b : ℕ) → l.first ≤ b → b < l.byte → Contains l.bytes.items b × (slice_index_or l.targets b 0 ≡ l.target);
  outside : (b : ℕ) → (b < l.first) ⊎ (l.byte ≤ b) → slice_index_or l.targets b 0 ≡ slice_index_or l.fn.targets b 0;
}
