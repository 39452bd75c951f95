use Rattle.std.proofs.Common.{◌≡◌, ℕ, ◌<◌, take}
use Rattle.rule_globs.specs.Glob.{in_ranges}
use Rattle.rule_globs.specs.inner.ByteBits.{has}
use Rattle.rule_globs.proofs.byte_bits.ByteBits.of.Given as goal

abbrev pub invariant-loop-range : goal.invariant-loop-range
invariant-loop-range l = (b : ℕ) → b < 256 → has l.bits b ≡ in_ranges (take l.range-index l.ranges) b
