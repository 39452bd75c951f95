-- What setting cells keeps and changes, and agreement stated for each read.
use Rattle.std.proofs.Common.{◌≡◌, ◌≢◌, ℕ, zero, suc, ◌<◌, ◌↔◌, List, [], ◌∷◌, ◌++◌, length, get_or, set, Some, refl, ap, ◌∙◌, subst}
use Rattle.std.proofs.Common.{arith, length-set}
use Rattle.std.specs.Prelude.{slice_get}
use Rattle.std.specs.List.{Contains}
use Rattle.row_rule.specs.declared.cell.Cell.{Cell}
use Rattle.row_rule.specs.Row.{write, Agrees}

get_set_here : (xs : List ℕ) (i word : ℕ) → i < length xs → slice_get (set xs i word) i ≡ Some word
get_set_here [] i word h = absurd (omega arith)
get_set_here (x ∷ xs) zero word h = refl
get_set_here (x ∷ xs) (suc i) word h = get_set_here xs i word (omega arith)

get_set_else : (xs : List ℕ) (i j word : ℕ) → i ≢ j → slice_get (set xs i word) j ≡ slice_get xs j
get_set_else [] i j word n = refl
get_set_else (x ∷ xs) zero zero word n = absurd (n refl)
get_set_else (x ∷ xs) zero (suc j) word n = refl
get_set_else (x ∷ xs) (suc i) zero word n = refl
get_set_else (x ∷ xs) (suc i) (suc j) word n = get_set_else xs i j word (λ e. n (ap suc e))

first_in : (c : Cell) (cs : List Cell) → Contains (c ∷ cs) c
first_in c cs = (zero, omega arith, refl)

later_in : (c d : Cell) (cs : List Cell) → Contains cs d → Contains (c ∷ cs) d
later_in c d cs t = (suc t.0, (let h = t.1 in omega arith), t.2)

pub length_write : (cells : List ℕ) (plan : List Cell) → length (write cells plan) ≡ length cells
length_write cells [] = refl
length_write cells (c ∷ cs) = length_write (set cells c.place c.word) cs ∙ length-set cells c.place c.word

pub write_else : (cells : List ℕ) (plan : List Cell) (place : ℕ) → ((cell : Cell) → Contains plan cell → cell.place ≢ place) →
    slice_get (write cells plan) place ≡ slice_get cells place
write_else cells [] place away = refl
write_else cells (c ∷ cs) place away =
    write_else (set cells c.place c.word) cs place (λ cell there. away cell (later_in c cell cs there)) ∙ get_set_else cells c.place place
    c.word (away c (first_in c cs))

pub write_append : (cells : List ℕ) (plan more : List Cell) → write cells (plan ++ more) ≡ write (write cells plan) more
write_append cells [] more = refl
write_append cells (c ∷ cs) more = write_append (set cells c.place c.word) cs more

pub write_last : (cells : List ℕ) (plan : List Cell) (cell : Cell) → cell.place < length cells →
    slice_get (write cells (plan ++ cell ∷ [])) cell.place ≡ Some cell.word
write_last cells plan cell inside =
    let long : length (write cells plan) ≡ length cells = length_write cells plan in
    ap (λ (xs : List ℕ). slice_get xs cell.place) (write_append cells plan (cell ∷ [])) ∙ get_set_here (write cells plan) cell.place
    cell.word (omega arith)

agrees_at : (cells : List ℕ) (reads : List Cell) (read : Cell) (k : ℕ) → k < length reads → get_or reads k read ≡ read →
    Agrees reads cells → slice_get cells read.place ≡ Some read.word
agrees_at cells [] read k h e a = absurd (omega arith)
agrees_at cells (r ∷ rs) read zero h e a = subst (λ (c : Cell). slice_get cells c.place ≡ Some c.word) e a.0
agrees_at cells (r ∷ rs) read (suc k) h e a = agrees_at cells rs read k (omega arith) e a.1

agrees_from : (cells : List ℕ) (reads : List Cell) → ((read : Cell) → Contains reads read → slice_get cells read.place ≡ Some read.word) →
    Agrees reads cells
agrees_from cells [] each = tt
agrees_from cells (r ∷ rs) each = (each r (first_in r rs), agrees_from cells rs (λ read there. each read (later_in r read rs there)))

pub agrees_each : (cells : List ℕ) (reads : List Cell) → Agrees reads cells ↔ ((read : Cell) → Contains reads read →
    slice_get cells read.place ≡ Some read.word)
agrees_each cells reads = ((λ a read there. agrees_at cells reads read there.0 there.1 there.2 a), agrees_from cells reads)
