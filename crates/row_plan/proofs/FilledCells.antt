-- The cells of a row after some of them were set.
use Rattle.std.proofs.Common.{◌≡◌, ℕ, zero, suc, ◌+◌, ◌*◌, ◌/◌, ◌%◌, ◌<◌, ◌≤◌, List, [], ◌∷◌, ◌++◌, length, sym, refl, ap, ◌∙◌, subst}
use Rattle.std.proofs.Common.{arith, add-one, length-set, get_or-set_other, get_or-set_same}
use Rattle.std.specs.Prelude.{slice_index, slice_set}
use Rattle.std.specs.Int.{byte_at}
use mathlib.Core.Logic.{◌⊎◌, dite}
use native.Mathlib.Decide.{ℕ_discrete}
use Rattle.names.specs.declared.limits.TheConstants.{LONGEST_COMPONENT}
use Rattle.directory_tree.specs.Apply.{longest_link_text}
use Rattle.tree_row.specs.Slots.{slot_at, text_at}
use Rattle.tree_row.proofs.Bytes.{length-text}
use Rattle.row_rule.specs.declared.cell.Cell.{Cell}
use Rattle.row_plan.specs.Leaves.{with_words}
use Rattle.row_plan.specs.inner.Rows.{Drafts}

pub length-with_words : (row : List ℕ) (base : ℕ) (word : ℕ → ℕ) (n : ℕ) → length (with_words row base word n) ≡ length row
length-with_words row base word zero = refl
length-with_words row base word (suc n) = length-set (with_words row base word n) (base + n) (word n) ∙ length-with_words row base word n

pub outside : (row : List ℕ) (base : ℕ) (word : ℕ → ℕ) (n k : ℕ) → (k < base) ⊎ (base + n ≤ k) → slice_index (with_words row base word n) k
    ≡ slice_index row k
outside row base word zero k out = refl
outside row base word (suc n) k out = get_or-set_other (with_words row base word n) (base + n) k (word n) 0 (grind arith)
    ∙ outside row base word n k (grind arith)

pub inside : (row : List ℕ) (base : ℕ) (word : ℕ → ℕ) (n j : ℕ) → j < n → base + n ≤ length row → slice_index (with_words row base word n)
    (base + j) ≡ word j
inside row base word zero j l fits = absurd (omega arith)
inside row base word (suc n) j l fits = dite (ℕ_discrete j n)
    (λ e. (λ i. slice_index (with_words row base word (suc n)) (base + e i)) ∙ get_or-set_same (with_words row base word n) (base + n)
    (word n) 0 (let m = length-with_words row base word n in omega arith) ∙ ap word (sym e))
    (λ other. get_or-set_other (with_words row base word n) (base + n) (base + j) (word n) 0 (λ e. other (omega arith))
    ∙ inside row base word n j (omega arith) (omega arith))

-- one more word
pub drafts_more : (row : List ℕ) (plan : List Cell) (after : List ℕ) (base : ℕ) (word : ℕ → ℕ) (n : ℕ) →
    Drafts row plan (slice_set (with_words after base word n) (base + n) (word n)) → Drafts row plan (with_words after base word (n + 1))
drafts_more row plan after base word n h = subst (λ (m : ℕ). Drafts row plan (with_words after base word m)) (sym (add-one n)) h

-- a text whose words stay
pub text_stays : (row row' : List ℕ) (base n : ℕ) → ((k : ℕ) → base ≤ k → k < base + (n + 7) / 8 → slice_index row' k
    ≡ slice_index row k) → text_at row' base n ≡ text_at row base n
text_stays row row' base zero h = refl
text_stays row row' base (suc n) h =
    (λ i. text_stays row row' base n (λ k low high. h k low (omega arith)) i ++ byte_at (n % 8)
    (h (base + n / 8) (omega arith) (omega arith) i) ∷ [])

-- a slot whose words stay
pub slot_stays : (row row' : List ℕ) (x : ℕ) → ((k : ℕ) → 164 * x ≤ k → k < 164 * x + 164 → slice_index row' k ≡ slice_index row k)
    → length (slot_at row x).component ≤ LONGEST_COMPONENT → length (slot_at row x).text ≤ longest_link_text →
    slot_at row' x ≡ slot_at row x
slot_stays row row' x apart short short_text =
    let lengths = apart (164 * x + 3) (omega arith) (omega arith) in
    let a = length-text row (164 * x + 4) (slice_index row (164 * x + 3) % 65536) in
    let b = length-text row (164 * x + 36) (slice_index row (164 * x + 3) / 65536) in
    let component = ap (λ (z : ℕ). text_at row' (164 * x + 4) (z % 65536)) lengths
    ∙ text_stays row row' (164 * x + 4) (slice_index row (164 * x + 3) % 65536) (λ k l h. apart k (omega arith) (omega arith)) in
    let text = ap (λ (z : ℕ). text_at row' (164 * x + 36) (z / 65536)) lengths
    ∙ text_stays row row' (164 * x + 36) (slice_index row (164 * x + 3) / 65536) (λ k l h. apart k (omega arith) (omega arith)) in
    let first = apart (164 * x + 0) (omega arith) (omega arith) in
    let second = apart (164 * x + 1) (omega arith) (omega arith) in
    let third = apart (164 * x + 2) (omega arith) (omega arith) in
    λ i. record { kind = first i; node = second i; parent = third i; component = component i; text = text i }
