-- Many names in one text.
use Rattle.std.specs.Prelude.{◌≡◌, ℕ, zero, suc, ◌+◌, ◌<◌, ◌≤◌, List, Some, get_or, length, slice_get, slice_range}
use Rattle.tables.specs.Tables.{Table, look_ups_after, state_after, state_count}

-- the offsets of this number of names in a text: each name goes from one to the next
pub record AreOffsets (text offsets : List ℕ) (count : ℕ) : Type 0 where
  pub long : length offsets ≡ count + 1
  pub ascend : (i : ℕ) → i < count → get_or offsets i 0 ≤ get_or offsets (i + 1) 0
  pub within : (i : ℕ) → i ≤ count → get_or offsets i 0 ≤ length text

abbrev pub name_at : List ℕ → List ℕ → ℕ → List ℕ
name_at text offsets i = slice_range text (get_or offsets i 0) (get_or offsets (i + 1) 0)

-- the state of the table that a name leads to
abbrev pub IsAfter : Table → List ℕ → ℕ → Type 0
IsAfter t name s = (state_after t name ≡ Some s) × (s < state_count t)

-- each state is the one that its name leads to
abbrev pub AreAfter : Table → List ℕ → List ℕ → List ℕ → Type 0
AreAfter t text offsets states = (i s : ℕ) → slice_get states i ≡ Some s → IsAfter t (name_at text offsets i) s

-- how many look-ups the names before one take
abbrev pub look_ups_of_names : Table → List ℕ → List ℕ → ℕ → ℕ
look_ups_of_names t text offsets zero = 0
look_ups_of_names t text offsets (suc i) = look_ups_of_names t text offsets i + look_ups_after t (name_at text offsets i)
