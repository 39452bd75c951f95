-- What the words that were read decide, and why they decide nothing.
use Rattle.std.specs.Prelude.{◌≡◌, ℕ, ◌+◌, ◌<◌, ◌≤◌, List, length, Result, Ok, Err}
use Rattle.names.specs.Limits.{longest_path}
use Rattle.names.specs.declared.errors.Errno.{Errno}
use Rattle.directory_tree.specs.Tree.{Tree}
use Rattle.mediation.specs.Opens.{Reached}
use Rattle.mediation.specs.Judgments.{reached_of}
use Rattle.row_rule.specs.declared.cell.Cell.{Cell}
use Rattle.row_rule.specs.Row.{Agrees}
use Rattle.tree_row.specs.Known.{InEach}
use Rattle.tree_row.specs.Rows.{row_length}
use Rattle.open_session.specs.declared.outcome.Outcome.{Outcome}
use Rattle.open_session.specs.declared.outcome.Outcome.TheVariants as outcome
use Rattle.open_session.specs.declared.outcome.Lack.{Lack}
use Rattle.open_session.specs.declared.outcome.Lack.TheVariants as lack
use Rattle.open_session.specs.Words.{IsUnread}

-- For each row that agrees with the words and each sound tree that the row encodes, the answer is this file, its name at the front
-- of the room; or it is refused with this number; or there is no such row.
abbrev pub Decides : ℕ → List Cell → List ℕ → (Tree → Result Reached Errno) → Outcome → Type 0
Decides capacity reads room answer (outcome.Reached file) = (file.name_length ≤ longest_path) × InEach capacity (Agrees reads)
    (λ row t. answer t ≡ Ok (reached_of room file))
Decides capacity reads room answer (outcome.Refused errno) = InEach capacity (Agrees reads) (λ row t. answer t ≡ Err errno)
Decides capacity reads room answer outcome.Torn = InEach capacity (Agrees reads) (λ row t. ⊥)

-- a place of the row where no word was read
abbrev pub IsLeft : ℕ → List Cell → ℕ → Type 0
IsLeft capacity reads place = (place < row_length capacity) × IsUnread reads place

-- A word is requested once `most` words were read after the old ones; memory is refused before that.
abbrev pub IsLack : ℕ → List Cell → List Cell → ℕ → Lack → Type 0
IsLack capacity old reads most (lack.Wants place) = IsLeft capacity reads place × (length reads ≡ length old + most)
IsLack capacity old reads most (lack.NoMemory place) = IsLeft capacity reads place × (length reads < length old + most)
