-- What is packed of an automaton's states so far.
use Rattle.std.specs.Prelude.{◌≡◌, ◌≢◌, ◌⊎◌, ℕ, ◌+◌, ◌*◌, ◌/◌, ◌<◌, ◌≤◌, ◌==◌, true, false, List, ◌++◌, length, Some, slice_get}
use Rattle.std.specs.Prelude.{slice_index_or, if◌then◌else◌, Contains}
use Rattle.names.specs.declared.record.Record.{Record}
use Rattle.automaton_rows.specs.Automata.{Automaton, target}
use Rattle.automaton_rows.specs.declared.range.TargetRange.{TargetRange}
use Rattle.automaton_rows.specs.Rows.{IsRowFrom, target_in}
use Rattle.tables.specs.Tables.{Table, default_of, depth_of}
use Rattle.table_image.specs.Chains.{source}
use Rattle.table_image.specs.declared.taken.Taken.{Taken}
use Rattle.table_image.specs.inner.TakenCells.{is_taken, is_blocked}

-- what a free cell's check is
abbrev pub free : ℕ
free = 4294967295

-- The record has its number. At most one record is new, and it is the last.
pub record IsRecordNumber (old new : List Record) (record_value : Record) (number : ℕ) : Type 0 where
  pub at : slice_get new number ≡ Some record_value
  pub more : List Record
  pub is : new ≡ old ++ more
  pub few : length new ≤ length old + 1

-- What a state with this default and depth leads to at a byte without a cell: the default at depth 0, and else what the default
-- leads to.
abbrev pub without_cell : Automaton → ℕ → ℕ → ℕ → ℕ
without_cell a default depth b = if depth == 0 then default else target a (source a default) b

-- The bytes that need a cell are those whose target isn't the one without a cell. Each of them has its target.
pub record AreOthers (target without : ℕ → ℕ) (bytes targets : List ℕ) : Type 0 where
  pub each : (b : ℕ) → b < 256 → target b ≢ without b → Contains bytes b
  pub only : (b : ℕ) → Contains bytes b → (b < 256) × (target b ≢ without b) × (slice_index_or targets b 0 ≡ target b)

-- a cell of these bytes
abbrev pub IsCell : ℕ → List ℕ → ℕ → Type 0
IsCell base bytes c = (b : ℕ) × Contains bytes b × (c ≡ base + b)

-- the cells of the bytes are written, and no others
pub record IsWritten (next check : List ℕ) (taken : Taken) (new_next new_check : List ℕ) (new_taken : Taken) (targets bytes : List ℕ)
    (base state : ℕ) : Type 0 where
  pub next_long : length new_next ≡ length next
  pub check_long : length new_check ≡ length check
  pub room : length new_taken.words.items ≡ length taken.words.items
  pub own : (b : ℕ) → Contains bytes b → (slice_index_or new_check (base + b) 0 ≡ state)
      × (slice_index_or new_next (base + b) 0 ≡ slice_index_or targets b 0)
      × (is_taken new_taken (base + b) ≡ true)
  pub others : (c : ℕ) → ¬ (IsCell base bytes c) → (slice_index_or new_check c 0 ≡ slice_index_or check c 0)
      × (slice_index_or new_next c 0 ≡ slice_index_or next c 0)
      × (is_taken new_taken c ≡ is_taken taken c)

-- The first states of the table are packed: a cell that a state owns has the state's target, and where it owns none, the target is
-- the one without a cell. Each cell that isn't taken is free.
pub record IsPacked (a : Automaton) (t : Table) (taken : Taken) (states : ℕ) : Type 0 where
  pub defaults_long : length t.default ≡ states
  pub bases_long : length t.base ≡ states
  pub accepts_long : length t.accept ≡ states
  pub depths_long : length t.depth ≡ states
  pub checks_long : length t.check ≡ length t.next
  pub few_cells : length t.next ≤ 256 * states
  pub one_row : 0 < states → 256 ≤ length t.next
  pub few_records : length t.records ≤ states
  pub few_words : length taken.words.items ≤ 4 * states + 1
  pub record_at : (s : ℕ) → s < states → slice_get t.records (slice_index_or t.accept s 0) ≡ slice_get a.records (source a s)
  pub accept : (s : ℕ) → s < states → slice_index_or t.accept s 0 < length t.records
  pub default : (s : ℕ) → s < states → slice_index_or t.default s 0 < length a.rows
  pub base : (s : ℕ) → s < states → slice_index_or t.base s 0 + 255 < length t.next
  pub next : (c : ℕ) → c < length t.next → slice_index_or t.next c 0 < length a.rows
  pub owned : (s b : ℕ) → s < states → b < 256 → slice_index_or t.check (slice_index_or t.base s 0 + b) 0 ≡ s →
      slice_index_or t.next (slice_index_or t.base s 0 + b) 0 ≡ target a (source a s) b
  pub unowned : (s b : ℕ) → s < states → b < 256 → slice_index_or t.check (slice_index_or t.base s 0 + b) 0 ≢ s →
      without_cell a (default_of t s) (depth_of t s) b ≡ target a (source a s) b
  pub depth : (s : ℕ) → s < states → depth_of t s ≤ t.depth_bound
  pub chain : (s : ℕ) → s < states → (depth_of t s ≡ 0)
      ⊎ ((default_of t s < s) × (depth_of t (default_of t s) < depth_of t s))
  pub checks : (c : ℕ) → c < length t.check → (slice_index_or t.check c 0 ≡ free)
      ⊎ ((slice_index_or t.check c 0 < states) × (is_taken taken c ≡ true))
  pub within : (c : ℕ) → is_taken taken c ≡ true → c < length t.next

-- at least this number of cells, of which the new ones are free
pub record HasCells (next check : List ℕ) (taken : Taken) (new_next new_check : List ℕ) (new_taken : Taken) (cells : ℕ) : Type 0 where
  pub enough : cells ≤ length new_next
  pub no_more : (length new_next ≡ length next) ⊎ (length new_next ≡ cells)
  pub long : length new_check ≡ length new_next
  pub no_fewer : length next ≤ length new_next
  pub room : cells ≤ 64 * length new_taken.words.items
  pub few_words : (length new_taken.words.items ≤ length taken.words.items) ⊎ (length new_taken.words.items ≤ cells / 64 + 1)
  pub next_kept : (c : ℕ) → slice_index_or new_next c 0 ≡ slice_index_or next c 0
  pub check_kept : (c : ℕ) → c < length next → slice_index_or new_check c 0 ≡ slice_index_or check c 0
  pub check_free : (c : ℕ) → length next ≤ c → c < length new_next → slice_index_or new_check c 0 ≡ free
  pub taken_kept : (c : ℕ) → is_taken new_taken c ≡ is_taken taken c

-- The row of a state is placed at the base: its cells were free, and are written.
pub record IsPlaced (next check : List ℕ) (taken : Taken) (new_next new_check : List ℕ) (new_taken : Taken) (targets bytes : List ℕ)
    (state base : ℕ) : Type 0 where
  pub low : base ≤ 256 * state
  pub free : is_blocked taken bytes base ≡ false
  pub made_next : List ℕ
  pub made_check : List ℕ
  pub made_taken : Taken
  pub made : HasCells next check taken made_next made_check made_taken (base + 256)
  pub written : IsWritten made_next made_check made_taken new_next new_check new_taken targets bytes base state

-- a row from a byte on, whose targets are below a bound
abbrev pub IsWalk : List TargetRange → ℕ → ℕ → Type 0
IsWalk row bound from = IsRowFrom from row × ((b : ℕ) → from ≤ b → b < 256 → target_in row b < bound)
