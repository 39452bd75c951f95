-- A table of an automaton, as an image has it, and how it runs.
use Rattle.std.specs.Prelude.{◌≡◌, ℕ, zero, suc, Bool, ◌+◌, ◌<◌, ◌==◌, List, [], ◌∷◌, length, Option, Some, None, slice_get}
use Rattle.std.specs.Prelude.{slice_index_or, if◌then◌else◌, unwrap_or}
use Rattle.std.specs.Option.{option_and_then}
use Rattle.names.specs.declared.record.Record.{Record}
use Rattle.tables.specs.declared.table.RawTable.{RawTable}

-- default, base, accept and depth have one number for each state, next and check one for each cell
pub record Table : Type 0 where
  pub default : List ℕ
  pub base : List ℕ
  pub accept : List ℕ
  pub next : List ℕ
  pub check : List ℕ
  pub records : List Record
  pub depth_bound : ℕ
  pub depth : List ℕ

abbrev pub table_value : RawTable → Table
table_value t = record {
  default = t.default.items;
  base = t.base.items;
  accept = t.accept.items;
  next = t.next.items;
  check = t.check.items;
  records = t.records.items;
  depth_bound = t.depth_bound;
  depth = t.depth.items;
}

abbrev pub state_count : Table → ℕ
state_count t = length t.default

abbrev pub cell_count : Table → ℕ
cell_count t = length t.next

abbrev pub record_count : Table → ℕ
record_count t = length t.records

-- The state after a state and a byte, in at most n look-ups: that in the cell given by the state's base and the byte, if
-- the cell's check names the state; else the state's default, if the state has depth 0; else the state after the default and
-- the same byte. None where an index is past the end of its list, or the look-ups are too few.
abbrev pub next_within : Table → ℕ → ℕ → ℕ → Option ℕ
next_within t zero s b = None
next_within t (suc n) s b = option_and_then (λ base. option_and_then
    (λ owner. if owner == s then slice_get t.next (base + b)
    else option_and_then (λ default. option_and_then
    (λ depth. if depth == 0 then Some default else next_within t n default b)
    (slice_get t.depth s)) (slice_get t.default s))
    (slice_get t.check (base + b))) (slice_get t.base s)

-- one look-up more than the bound of depths is enough
abbrev pub next_state : Table → ℕ → ℕ → Option ℕ
next_state t s b = next_within t (suc t.depth_bound) s b

-- the default and the depth of a state, 0 past the last one
abbrev pub default_of : Table → ℕ → ℕ
default_of t s = slice_index_or t.default s 0

abbrev pub depth_of : Table → ℕ → ℕ
depth_of t s = slice_index_or t.depth s 0

-- the cell of a state and a byte
abbrev pub cell_of : Table → ℕ → ℕ → ℕ
cell_of t s b = slice_index_or t.base s 0 + b

-- the state owns its cell for the byte
abbrev pub owns : Table → ℕ → ℕ → Bool
owns t s b = slice_index_or t.check (cell_of t s b) 0 == s

-- how many look-ups the next state takes, at most n: one, and those from the default on where the byte is looked up
-- there again
abbrev pub look_ups_within : Table → ℕ → ℕ → ℕ → ℕ
look_ups_within t zero s b = 0
look_ups_within t (suc n) s b =
    if owns t s b then 1
    else if depth_of t s == 0 then 1
    else suc (look_ups_within t n (default_of t s) b)

abbrev pub look_ups : Table → ℕ → ℕ → ℕ
look_ups t s b = look_ups_within t (suc t.depth_bound) s b

-- the state after a state and more bytes, one step for each byte
abbrev pub state_from : Table → ℕ → List ℕ → Option ℕ
state_from t s [] = Some s
state_from t s (b ∷ bytes) = option_and_then (λ n. state_from t n bytes) (next_state t s b)

-- how many look-ups more bytes take from a state on
abbrev pub look_ups_from : Table → ℕ → List ℕ → ℕ
look_ups_from t s [] = 0
look_ups_from t s (b ∷ bytes) = look_ups t s b + look_ups_from t (unwrap_or (next_state t s b) 0) bytes

-- no byte leads out of state 0
abbrev pub StaysDead : Table → Type 0
StaysDead t = (b : ℕ) → b < 256 → next_state t 0 b ≡ Some 0

-- state 1 is the start
abbrev pub state_after : Table → List ℕ → Option ℕ
state_after t bytes = state_from t 1 bytes

abbrev pub look_ups_after : Table → List ℕ → ℕ
look_ups_after t bytes = look_ups_from t 1 bytes

-- the record that a state's accept names
abbrev pub record_of : Table → ℕ → Option Record
record_of t s = option_and_then (slice_get t.records) (slice_get t.accept s)

abbrev pub record_after : Table → List ℕ → Option Record
record_after t bytes = option_and_then (record_of t) (state_after t bytes)
