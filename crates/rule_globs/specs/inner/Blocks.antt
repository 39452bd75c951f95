-- Which bytes of a block are in a set, as a word.
use Rattle.std.specs.Prelude.{ℕ, ◌+◌, ◌*◌, Bool, List, [], ◌∷◌, if◌then◌else◌}
use Rattle.rule_globs.specs.Glob.{ByteSet, fits}

abbrev pub bit : Bool → ℕ
bit b = if b then 1 else 0

-- bit i is set where the set has byte i
abbrev pub taken : ByteSet → List ℕ → ℕ
taken set [] = 0
taken set (byte ∷ bytes) = bit (fits set byte) + 2 * taken set bytes
