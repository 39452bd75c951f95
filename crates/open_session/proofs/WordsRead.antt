-- Words that were read, at their places.
use Rattle.std.proofs.Common.{◌≡◌, ℕ, suc, ◌≢◌, ◌==◌, Bool, true, false, List, [], ◌∷◌, Some, None, Option, sym, refl, ap, ◌∙◌, arith}
use Rattle.std.proofs.Common.{ne_eqb}
use Rattle.std.specs.Prelude.{cond, is_some, nat_lt, slice_index, if◌then◌else◌, ◌+◌, IfSome}
use mathlib.Core.Logic.{inl, inr}
use Rattle.std.specs.Ordering.{is_eq, nat_cmp}
use Rattle.std.specs.declared.cmp.Ordering.TheVariants.{Less, Equal, Greater}
use Rattle.std.proofs.lemmas.Bool.{le-ltb, eq-eqb}
use Rattle.std.proofs.lemmas.Bool.Decides.{eqb_tells}
use Rattle.std.proofs.lemmas.List.Elements.{All-head, All-tail, All-cons}
use Rattle.std.proofs.lemmas.Option.{get_or_from_slice_get, same_Some}
use Rattle.row_rule.specs.declared.cell.Cell.{Cell}
use Rattle.row_rule.specs.Row.{Agrees}
use Rattle.tree_row.specs.Known.{known_at}
use Rattle.open_session.specs.Words.{word_in, IsUnread}

pub unread : (reads : List Cell) (place : ℕ) → word_in reads place ≡ None → IsUnread reads place
unread [] place none = λ k d h. absurd (omega arith)
unread (read ∷ reads) place none = elim (eqb_tells place read.place) [
  | inl same ↦ absurd (cc (sym (ap (λ (b : Bool). if b then Some read.word else word_in reads place) same.0) ∙ none))
  | inr other ↦ All-cons (λ (r : Cell). r.place ≢ place) read reads (λ e. other.1 (sym e))
      (unread reads place (sym (ap (λ (b : Bool). if b then Some read.word else word_in reads place) other.0) ∙ none))
]

pub none_read : (reads : List Cell) (place : ℕ) → IsUnread reads place → word_in reads place ≡ None
none_read [] place h = refl
none_read (read ∷ reads) place h = elim (eqb_tells place read.place) [
  | inl same ↦ absurd (All-head (λ (r : Cell). r.place ≢ place) read reads h (sym same.1))
  | inr other ↦ ap (λ (b : Bool). if b then Some read.word else word_in reads place) other.0 ∙ none_read reads place
      (All-tail (λ (r : Cell). r.place ≢ place) read reads h)
]

stands : (reads : List Cell) (row : List ℕ) (place word : ℕ) → word_in reads place ≡ Some word → Agrees reads row →
    slice_index row place ≡ word
stands [] row place word there agrees = absurd (cc there)
stands (read ∷ reads) row place word there agrees = elim (eqb_tells place read.place) [
  | inl same ↦ ap (slice_index row) same.1 ∙ get_or_from_slice_get row read.place read.word 0 agrees.0 ∙ same_Some read.word word
      (sym (ap (λ (b : Bool). if b then Some read.word else word_in reads place) same.0) ∙ there)
  | inr other ↦ stands reads row place word (sym (ap (λ (b : Bool). if b then Some read.word else word_in reads place) other.0) ∙ there)
      agrees.1
]

pub known_stands : (reads : List Cell) (place : ℕ) (known : Option ℕ) → known ≡ word_in reads place →
    IfSome known (λ word. (row : List ℕ) → Agrees reads row → slice_index row place ≡ word)
known_stands reads place None is = tt
known_stands reads place (Some word) is = λ row agrees. stands reads row place word (sym is) agrees

-- the order of numbers and their equality agree on whether two numbers are equal
same_place : (p q : ℕ) → is_eq (nat_cmp p q) ≡ (p == q)
same_place p q = elim (eqb_tells p q) [
  | inl same ↦ ap (λ (b : Bool). is_eq (cond b Less (cond (p == q) Equal Greater))) (le-ltb p q (let e = same.1 in omega (arith, e)))
      ∙ ap (λ (b : Bool). is_eq (cond b Equal Greater)) same.0 ∙ sym same.0
  | inr other ↦ elim (nat_lt p q) as (λ (b : Bool). is_eq (cond b Less (cond (p == q) Equal Greater)) ≡ (p == q)) [
    | true ↦ sym other.0
    | false ↦ ap (λ (b : Bool). is_eq (cond b Equal Greater)) other.0 ∙ sym other.0
  ]
]

same_either_way : (p q : ℕ) → (p == q) ≡ (q == p)
same_either_way p q = elim (eqb_tells p q) [
  | inl same ↦ same.0 ∙ sym (eq-eqb q p (sym same.1))
  | inr other ↦ other.0 ∙ sym (ne_eqb q p (λ e. other.1 (sym e)))
]

pub told_more : (words new : List (ℕ × ℕ)) (reads : List Cell) (cell : Cell)
    → ((q : ℕ) → known_at new q ≡ cond (is_eq (nat_cmp cell.place q)) (Some cell.word) (known_at words q)) →
    ((q : ℕ) → known_at words q ≡ word_in reads q) → (q : ℕ) → known_at new q ≡ word_in (cell ∷ reads) q
told_more words new reads cell updates told q =
    updates q ∙ ap (λ (b : Bool). cond b (Some cell.word) (known_at words q)) (same_place cell.place q ∙ same_either_way cell.place q)
    ∙ ap (λ (o : Option ℕ). cond (q == cell.place) (Some cell.word) o) (told q)

pub one_more : (old new : ℕ) (before : Option ℕ) → before ≡ None → new ≡ old + (if is_some before then 0 else 1) → new ≡ suc old
one_more old new before none len = let more = len ∙ ap (λ (o : Option ℕ). old + (if is_some o then 0 else 1)) none in omega (arith, more)
