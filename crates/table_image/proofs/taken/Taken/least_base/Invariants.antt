-- No base before this one is free.
use Rattle.std.proofs.Common.{◌≡◌, ◌-◌, ◌*◌, ◌^◌, ◌<◌, ◌≤◌, ℕ, true, length}
use Rattle.table_image.specs.inner.TakenCells.{is_blocked}
use Rattle.table_image.proofs.taken.Taken.least_base.Given as goal

abbrev pub invariant-loop-base : goal.invariant-loop-base
invariant-loop-base l = record {
  behind : l.from ≤ l.base;
  end : l.end ≡ 64 * length l.self.words.items;
  low : l.base < 2 ^ 33;
  none : (x : ℕ) → l.from ≤ x → x < l.base → is_blocked l.self l.bytes x ≡ true;
}

abbrev pub decreases-loop-base : goal.decreases-loop-base
decreases-loop-base l = l.end - l.base
