-- Words as bytes of texts.
use Rattle.std.specs.Prelude.{◌≡◌, ℕ, ◌+◌, ◌*◌, ◌<◌, List, length, slice_index}
use Rattle.std.specs.Int.{byte_at}
use Rattle.tree_row.specs.Slots.{packed}

-- a word of eight bytes of a text has each of them, since each is a byte
abbrev pub IsPacked : List ℕ → Type 0
IsPacked text = (k j : ℕ) → j < 8 → byte_at j (packed text k) ≡ slice_index text (8 * k + j)

-- the bytes of a word, the lowest first, are the first of a text, as far as it goes
abbrev pub IsStart : ℕ → List ℕ → Type 0
IsStart word text = (j : ℕ) → j < 8 → j < length text → byte_at j word ≡ slice_index text j

-- four bytes of a text, from an index on, are those that a word has there
abbrev pub HasFourAt : ℕ → List ℕ → ℕ → Type 0
HasFourAt word text i = (k : ℕ) → k < 4 → byte_at (i + k) word ≡ slice_index text (i + k)
