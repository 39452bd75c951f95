-- What is known of a row, and what it decides.
use Rattle.std.specs.Prelude.{◌≡◌, ◌≢◌, ℕ, ◌<◌, List, slice_index, Option, Some, None, Result, Err}
use Rattle.std.specs.Ordering.{is_eq, nat_cmp}
use Rattle.std.specs.Map.{lookup}
use Rattle.names.specs.declared.errors.Errno.{Errno}
use Rattle.directory_tree.specs.Tree.{Tree, WellFormed}
use Rattle.tree_row.specs.Rows.{row_length, Encodes}
use Rattle.tree_row.specs.declared.stop.Stop.{Stop}
use Rattle.tree_row.specs.declared.stop.Stop.TheVariants as stop

-- the word that is known at a place
abbrev pub known_at : List (ℕ × ℕ) → ℕ → Option ℕ
known_at known place = lookup (λ at. is_eq (nat_cmp place at)) known

-- each known word is the row's word at its place
abbrev pub Agrees : List (ℕ × ℕ) → List ℕ → Type 0
Agrees known row = (place n : ℕ) → known_at known place ≡ Some n → slice_index row place ≡ n

-- the word at a place is known, in addition to what was known before
pub record Learns (old new : List (ℕ × ℕ)) (place word : ℕ) : Type 0 where
  pub there : known_at new place ≡ Some word
  pub others : (at : ℕ) → at ≢ place → known_at new at ≡ known_at old at

-- a place of the row whose word isn't known
abbrev pub IsUnknown : ℕ → List (ℕ × ℕ) → ℕ → Type 0
IsUnknown capacity known place = (place < row_length capacity) × (known_at known place ≡ None)

-- for each sound tree, and each row that encodes it and may be the one that is read
abbrev pub InEach : ℕ → (List ℕ → Type 0) → (List ℕ → Tree → Type 0) → Type 0
InEach capacity may P = (row : List ℕ) (t : Tree) → may row → WellFormed t → Encodes capacity row t → P row t

-- why a walk over the words that may be read has no end: they decide that it is refused; a word is needed; no row that encodes a
-- tree agrees with them; or memory was refused
abbrev pub Stops : {X : Type 0} → ℕ → (List ℕ → Type 0) → (ℕ → Type 0) → Type 0 → (Tree → Result X Errno) → Stop → Type 0
Stops capacity may wants refused answer (stop.Refused errno) = InEach capacity may (λ row t. answer t ≡ Err errno)
Stops capacity may wants refused answer (stop.Wants place) = wants place
Stops capacity may wants refused answer stop.Torn = InEach capacity may (λ row t. ⊥)
Stops capacity may wants refused answer stop.NoMemory = refused

-- nothing is allocated over known words
abbrev pub StopsKnown : {X : Type 0} → ℕ → List (ℕ × ℕ) → (Tree → Result X Errno) → Stop → Type 0
StopsKnown capacity known = Stops capacity (Agrees known) (IsUnknown capacity known) ⊥
