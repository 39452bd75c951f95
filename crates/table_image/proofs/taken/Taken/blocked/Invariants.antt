-- Which bases have a taken cell of the bytes so far.
use Rattle.std.proofs.Common.{◌≡◌, ◌+◌, ◌<◌, ℕ, take}
use Rattle.table_image.specs.inner.TakenCells.{is_bit, is_blocked}
use Rattle.table_image.proofs.taken.Taken.blocked.Given as goal

abbrev pub invariant-loop-byte : goal.invariant-loop-byte
invariant-loop-byte l = record {
  bits : (i : ℕ) → i < 64 → is_bit l.blocked i ≡ is_blocked l.self (take l.byte-index l.bytes)
      (l.base + i);
}
