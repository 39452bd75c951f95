-- One more word that a walk's cells read, and a word that is lacking.
use Rattle.std.proofs.Common.{◌≡◌, ℕ, suc, ◌+◌, ◌≤◌, ◌<◌, List, ◌∷◌, length, take, drop, Some, None, sym, ap, subst, arith}
use Rattle.std.specs.Prelude.{slice_get, slice_index}
use Rattle.std.proofs.lemmas.List.{take-append-drop}
use Rattle.std.proofs.lemmas.Option.{get_or_from_slice_get}
use Rattle.row_rule.specs.declared.cell.Cell.{Cell}
use Rattle.row_rule.specs.Row.{Agrees}
use Rattle.tree_row.specs.Rows.{row_length}
use Rattle.open_session.specs.declared.outcome.Lack.TheVariants as lack
use Rattle.open_session.specs.Words.{word_in, IsUnread, ReadsOn}
use Rattle.open_session.specs.Outcomes.{IsLeft}
use Rattle.open_session.specs.inner.ReadCells.{IsHonest}
use Rattle.open_session.proofs.WordsRead.{unread}

-- a capacity, and the words that were read
abbrev pub Seen : Type 0
Seen = ℕ × List Cell

next_is : (n : ℕ) → suc n ≡ n + 1
next_is n = omega arith

pub own_more : (row : List ℕ) (words new : Seen) (read : ℕ) (cell : Cell) → new ≡ (let s : Seen = (words.0, cell ∷ words.1) in s)
    → slice_get row cell.place ≡ Some cell.word → IsUnread words.1 cell.place → ReadsOn row (take read words.1) (drop read words.1) →
    ReadsOn row (take (read + 1) new.1) (drop (read + 1) new.1)
own_more row words new read cell is there free on =
    subst (λ (s : Seen). ReadsOn row (take (read + 1) s.1) (drop (read + 1) s.1)) (sym is)
    (subst (λ (n : ℕ). ReadsOn row (take n (cell ∷ words.1)) (drop n (cell ∷ words.1))) (next_is read)
    (there, subst (λ (reads : List Cell). IsUnread reads cell.place) (sym (take-append-drop read words.1)) free, on))

pub counted_more : (words new : Seen) (read : ℕ) (cell : Cell) → new ≡ (let s : Seen = (words.0, cell ∷ words.1) in s) →
    read ≤ length words.1 → read + 1 ≤ length new.1
counted_more words new read cell is counted = let long : length new.1 ≡ suc (length words.1) = ap (λ (s : Seen). length s.1) is in
    omega (arith, long, counted)

pub honest_wants : (capacity : ℕ) (reads : List Cell) (most read place : ℕ) → place < row_length capacity → word_in reads place ≡ None →
    read ≡ most → IsHonest capacity reads most read (Some (lack.Wants place))
honest_wants capacity reads most read place within none all = record {
  wants = λ other is. subst (λ (p : ℕ). IsLeft capacity reads p × (read ≡ most)) (cc is) ((within, unread reads place none), all);
  refused = λ other is. absurd (cc is);
}

pub honest_refused : (capacity : ℕ) (reads : List Cell) (most read place : ℕ) → place < row_length capacity → word_in reads place ≡ None →
    read < most → IsHonest capacity reads most read (Some (lack.NoMemory place))
honest_refused capacity reads most read place within none few = record {
  wants = λ other is. absurd (cc is);
  refused = λ other is. subst (λ (p : ℕ). IsLeft capacity reads p × (read < most)) (cc is) ((within, unread reads place none), few);
}

pub newest_stands : (row : List ℕ) (words new : Seen) (cell : Cell) → new ≡ (let s : Seen = (words.0, cell ∷ words.1) in s) →
    Agrees new.1 row → slice_index row cell.place ≡ cell.word
newest_stands row words new cell is agrees =
    get_or_from_slice_get row cell.place cell.word 0 (subst (λ (s : Seen). Agrees s.1 row) is agrees).0
