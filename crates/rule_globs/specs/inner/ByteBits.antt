-- Sets of bytes as bits.
use Rattle.std.specs.Prelude.{ℕ, ◌/◌, ◌%◌, Bool, ◌==◌, get_or}
use Rattle.std.specs.Int.{bit_at}
use Rattle.rule_globs.specs.declared.byte_bits.ByteBits.{ByteBits}

-- bit i of a word is set
abbrev pub has_bit : ℕ → ℕ → Bool
has_bit word i = bit_at word i == 1

-- byte b is in the set
abbrev pub has : ByteBits → ℕ → Bool
has bits b = has_bit (get_or bits.words (b / 64) 0) (b % 64)
