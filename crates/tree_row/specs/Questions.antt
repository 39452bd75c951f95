-- What the answers to questions about single slots mean, in each row that may be the one that is read.
use Rattle.std.specs.Prelude.{◌≡◌, ℕ, ◌+◌, ◌≤◌, Bool, true, false, List, Option, Some, None}
use Rattle.tree_row.specs.Slots.{Slot, slot_at, IsUsed, IsFree}

-- the answer to a question
abbrev pub Tells : Bool → Type 0 → Type 0
Tells true P = P
Tells false P = ¬ P

-- a slot in use whose entry is in the directory of another slot
pub record IsEntryOf (n : ℕ) (f : ℕ → Slot) (directory s : ℕ) : Type 0 where
  pub used : IsUsed n f s
  pub under : (f s).parent ≡ directory

abbrev pub TellsEntryOf : ℕ → (List ℕ → Type 0) → ℕ → ℕ → Bool → Type 0
TellsEntryOf capacity may directory s is = (row : List ℕ) → may row → Tells is (IsEntryOf (capacity + 1) (slot_at row) directory s)

-- no slot holds an entry of the directory of a slot
abbrev pub IsChildless : ℕ → (ℕ → Slot) → ℕ → Type 0
IsChildless n f directory = (s : ℕ) → ¬ (IsEntryOf n f directory s)

abbrev pub TellsChildless : ℕ → (List ℕ → Type 0) → ℕ → Bool → Type 0
TellsChildless capacity may directory is = (row : List ℕ) → may row → Tells is (IsChildless (capacity + 1) (slot_at row) directory)

-- the first of the free slots
pub record IsFirstFree (n : ℕ) (f : ℕ → Slot) (s : ℕ) : Type 0 where
  pub free : IsFree n f s
  pub first : (r : ℕ) → IsFree n f r → s ≤ r

-- the first free slot, or that none is
abbrev pub FreeIn : ℕ → (ℕ → Slot) → Option ℕ → Type 0
FreeIn n f None = (s : ℕ) → ¬ (IsFree n f s)
FreeIn n f (Some s) = IsFirstFree n f s

abbrev pub TellsFree : ℕ → (List ℕ → Type 0) → Option ℕ → Type 0
TellsFree capacity may found = (row : List ℕ) → may row → FreeIn (capacity + 1) (slot_at row) found

-- no slot before this one is free
abbrev pub NoneFreeBefore : ℕ → (List ℕ → Type 0) → ℕ → Type 0
NoneFreeBefore capacity may s = (row : List ℕ) → may row → (r : ℕ) → IsFree (capacity + 1) (slot_at row) r → s ≤ r
