-- The rule of a row of words that one keeper changes while walkers read it. The first word is the count, a sequence count as in
-- the Linux path-lookup document: odd while a change is being made. The others are the cells. Each step of a seat is one load or
-- one store of one word, and the rule holds between any two steps.
use Rattle.std.specs.Prelude.{◌≡◌, ℕ, ◌+◌, ◌*◌, ◌/◌, ◌%◌, ◌≤◌, List, [], ◌∷◌, ◌++◌, length, slice_get, slice_set, Some, None, Option}
use mathlib.Core.Option.{some}
use mathlib.Core.List.{IsPrefix}
use lib.ListN.{get_elem?}
use Rattle.directory_tree.specs.declared.change.Change.{Change}
use Rattle.row_rule.specs.declared.cell.Cell.{Cell}
use Rattle.row_rule.specs.declared.view.Pending.{Pending}
use Rattle.row_rule.specs.declared.view.KeeperView.{KeeperView}
use Rattle.row_rule.specs.declared.view.WalkerView.{WalkerView}
use Rattle.row_rule.specs.declared.view.View.{View}
use Rattle.row_rule.specs.declared.view.View.TheVariants.{Keeps, Walks}

-- the cells after these have been set, in order
abbrev pub write : List ℕ → List Cell → List ℕ
write cells [] = cells
write cells (c ∷ cs) = write (slice_set cells c.place c.word) cs

-- each word that was read is at its place
abbrev pub Agrees : List Cell → List ℕ → Type 0
Agrees [] cells = Unit {0}
Agrees (read ∷ reads) cells = (slice_get cells read.place ≡ Some read.word) × Agrees reads cells

-- The count: two for each change that was made, and one more while a change is being made.
abbrev pub pending_count : Option Pending → ℕ
pending_count None = 0
pending_count (Some pending) = 1

abbrev pub count_of : KeeperView → ℕ
count_of k = 2 * length k.history + pending_count k.pending

-- The cells that are left to set, and the changes that are made once they are set.
abbrev pub left_of : Option Pending → List Cell
left_of None = []
left_of (Some pending) = pending.left

abbrev pub target_of : List Change → Option Pending → List Change
target_of history None = history
target_of history (Some pending) = history ++ pending.change ∷ []

-- What a walker knows fits what the keeper knows. The changes that it has seen are the first ones of the history, half as many as
-- the count that it read last; no count that it read is past the count. If its walk began with an even count that is still the
-- current one, it has seen the whole history, and the cells still hold what it read.
pub record FitsWalker (k : KeeperView) (w : WalkerView) : Type 0 where
  pub begins : IsPrefix w.seen k.history
  pub half : length w.seen ≡ w.last / 2
  pub noted_low : w.noted ≤ count_of k
  pub last_low : w.last ≤ count_of k
  pub still : w.noted % 2 ≡ 0 → w.noted ≡ count_of k → (w.seen ≡ k.history) × Agrees w.reads k.cells

abbrev pub FitsView : KeeperView → View → Type 0
FitsView k (Keeps other) = ⊥
FitsView k (Walks w) = FitsWalker k w

-- The rule, for rows of `size` cells, whatever it is that cells encode: seat 0 keeps, and knows the words; with the cells that
-- are left to set, the row encodes the changes that are then made; the changes last met are the first ones of the history; and
-- each other seat walks, and what it knows fits. The views of seats that were dropped stay.
module _ (Encodes : List ℕ → List Change → Type 0) (size : ℕ) where
  pub record KeptBy (k : KeeperView) (words : List ℕ) (views : List View) : Type 0 where
    pub seated : get_elem? views 0 ≡ some (Keeps k)
    pub long : length k.cells ≡ size
    pub words_are : words ≡ count_of k ∷ k.cells
    pub encodes : Encodes (write k.cells (left_of k.pending)) (target_of k.history k.pending)
    pub met_begins : IsPrefix k.met k.history
    pub fits : (seat : ℕ) (v : View) → ¬ (seat ≡ 0) → get_elem? views seat ≡ some v → FitsView k v

  abbrev pub Holds : List ℕ → List View → Type 0
  Holds words views = (k : KeeperView) × KeptBy k words views
