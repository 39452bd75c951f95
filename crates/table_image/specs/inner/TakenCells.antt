-- Cells that are taken, and bases at which a row's cells are free.
use Rattle.std.specs.Prelude.{◌≡◌, ℕ, ◌+◌, ◌/◌, ◌%◌, ◌<◌, ◌≤◌, ◌==◌, Bool, true, false, List, get_or}
use Rattle.std.specs.Int.{bit_at}
use Rattle.std.specs.List.{list_any}
use Rattle.table_image.specs.declared.taken.Taken.{Taken}

-- bit i of a word is set
abbrev pub is_bit : ℕ → ℕ → Bool
is_bit word i = bit_at word i == 1

abbrev pub is_taken : Taken → ℕ → Bool
is_taken taken c = is_bit (get_or taken.words.items (c / 64) 0) (c % 64)

-- a cell of the bytes is taken
abbrev pub is_blocked : Taken → List ℕ → ℕ → Bool
is_blocked taken bytes base = list_any (λ b. is_taken taken (base + b)) bytes

-- the least base from one on at which no cell of the bytes is taken
pub record IsLeastFree (taken : Taken) (bytes : List ℕ) (from base : ℕ) : Type 0 where
  pub behind : from ≤ base
  pub free : is_blocked taken bytes base ≡ false
  pub least : (x : ℕ) → from ≤ x → x < base → is_blocked taken bytes x ≡ true
