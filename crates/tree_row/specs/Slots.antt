-- The slots of a row: the cells of one entry each, and what they say. A row's cells are its words but the first, which is the
-- count. The slot of number s has 164 cells, from cell 164 * s on:
--
--     0          kind: 0 free, 1 directory, 2 file, 3 symbolic link
--     1          the number of its node
--     2          the slot of the directory that has it
--     3          the length of its component, and 65536 times that of its link's text
--     4 to 35    the component, eight bytes a cell, the lowest first
--     36 to 163  the link's text, likewise
use Rattle.std.specs.Prelude.{◌≡◌, ◌≢◌, ℕ, zero, suc, ◌+◌, ◌*◌, ◌/◌, ◌%◌, ◌<◌, ◌≤◌, List, [], ◌∷◌, ◌++◌, length, slice_index}
use Rattle.std.specs.Int.{byte_at, from_le_bytes, w64}
use Rattle.names.specs.declared.limits.TheConstants.{LONGEST_COMPONENT}
use Rattle.directory_tree.specs.declared.node.NodeKind.{NodeKind}
use Rattle.directory_tree.specs.declared.node.NodeKind.TheVariants.{Directory, File, Link}
use Rattle.directory_tree.specs.Tree.{Entry}
use Rattle.directory_tree.specs.Apply.{entry, longest_link_text}

-- the number of cells of `n` slots
abbrev pub slots_length : ℕ → ℕ
slots_length n = 164 * n

-- the first `n` bytes from a cell on
abbrev pub text_at : List ℕ → ℕ → ℕ → List ℕ
text_at row base zero = []
text_at row base (suc n) = text_at row base n ++ byte_at (n % 8) (slice_index row (base + n / 8)) ∷ []

-- eight bytes of a text as a word, and zeros past its end
unfoldable pub packed : List ℕ → ℕ → ℕ
packed text k = from_le_bytes w64 (slice_index text (8 * k) ∷ slice_index text (8 * k + 1) ∷ slice_index text
    (8 * k + 2) ∷ slice_index text (8 * k + 3)
    ∷ slice_index text (8 * k + 4) ∷ slice_index text (8 * k + 5) ∷ slice_index text (8 * k + 6) ∷ slice_index text (8 * k + 7) ∷ [])

-- what a slot's cells say
pub record Slot : Type 0 where
  pub kind : ℕ
  pub node : ℕ
  pub parent : ℕ
  pub component : List ℕ
  pub text : List ℕ

abbrev pub slot_at : List ℕ → ℕ → Slot
slot_at row s = record {
  kind = slice_index row (164 * s + 0);
  node = slice_index row (164 * s + 1);
  parent = slice_index row (164 * s + 2);
  component = text_at row (164 * s + 4) (slice_index row (164 * s + 3) % 65536);
  text = text_at row (164 * s + 36) (slice_index row (164 * s + 3) / 65536);
}

-- the kind of a slot in use, by its number
abbrev pub kind_from : ℕ → List ℕ → NodeKind
kind_from zero text = File
kind_from (suc zero) text = Directory
kind_from (suc (suc zero)) text = File
kind_from (suc (suc (suc n))) text = Link text

-- the entry of a slot, and of the slot of its directory
abbrev pub entry_in : Slot → Slot → Entry
entry_in own above = entry above.node own.component own.node (kind_from own.kind own.text)

-- the entry that a slot past the root's stands for
abbrev pub entry_at : (ℕ → Slot) → ℕ → Entry
entry_at f s = entry_in (f s) (f (f s).parent)

-- of `n` slots, one past the root's that isn't free
pub record IsUsed (n : ℕ) (f : ℕ → Slot) (s : ℕ) : Type 0 where
  pub past_root : 0 < s
  pub within : s < n
  pub used : (f s).kind ≢ 0

pub record IsFree (n : ℕ) (f : ℕ → Slot) (s : ℕ) : Type 0 where
  pub past_root : 0 < s
  pub within : s < n
  pub free : (f s).kind ≡ 0

pub record IsDirectorySlot (n : ℕ) (f : ℕ → Slot) (s : ℕ) : Type 0 where
  pub within : s < n
  pub kind : (f s).kind ≡ 1

-- a slot holds the entry of a component in the directory of another slot
pub record IsChildSlot (n : ℕ) (f : ℕ → Slot) (parent : ℕ) (component : List ℕ) (s : ℕ) : Type 0 where
  pub used : IsUsed n f s
  pub under : (f s).parent ≡ parent
  pub named : (f s).component ≡ component

-- numbers that the limits allow; only a link has a text
pub record IsInRange (own : Slot) : Type 0 where
  pub kind : own.kind ≤ 3
  pub component : length own.component ≤ LONGEST_COMPONENT
  pub text : length own.text ≤ longest_link_text
  pub text_of_link : own.kind ≢ 3 → own.text ≡ []

pub record IsRootSlot (n : ℕ) (own : Slot) : Type 0 where
  pub within : 0 < n
  pub kind : own.kind ≡ 1
  pub node : own.node ≡ 1
  pub parent : own.parent ≡ 0
  pub component : own.component ≡ []
  pub text : own.text ≡ []
