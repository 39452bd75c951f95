-- The words that a walk has read, the newest first.
use Rattle.std.specs.Prelude.{◌≡◌, ◌≢◌, ℕ, List, [], ◌∷◌, ◌++◌, ◌==◌, slice_get, Option, Some, None, if◌then◌else◌}
use Rattle.std.specs.List.{All}
use Rattle.row_rule.specs.declared.cell.Cell.{Cell}

-- the word that was read at a place
abbrev pub word_in : List Cell → ℕ → Option ℕ
word_in [] place = None
word_in (read ∷ reads) place = if place == read.place then Some read.word else word_in reads place

-- no word was read at the place
abbrev pub IsUnread : List Cell → ℕ → Type 0
IsUnread reads place = All (λ (read : Cell). read.place ≢ place) reads

-- After the old words, more were read from the row: each is the row's word at its place, where none had been read before it.
abbrev pub ReadsOn : List ℕ → List Cell → List Cell → Type 0
ReadsOn row [] old = Unit {0}
ReadsOn row (read ∷ more) old = (slice_get row read.place ≡ Some read.word) × IsUnread (more ++ old) read.place × ReadsOn row more old
