-- The row of the root alone.
use Rattle.std.proofs.Common.{◌≡◌, ℕ, ◌+◌, ◌*◌, ◌/◌, ◌%◌, ◌<◌, List, length, get_or, set, replicate, ap, ◌∙◌, arith, length-set}
use Rattle.std.proofs.Common.{get_or-set_other, get_or-set_same}
use Rattle.std.specs.Prelude.{slice_index}
use mathlib.Core.Logic.{inl}
use Rattle.std.proofs.lemmas.List.{get_or-replicate, length-replicate}
use Rattle.directory_tree.specs.Tree.{root_alone}
use Rattle.std.proofs.lemmas.Option.{none-some}
use Rattle.tree_row.specs.Slots.{slot_at, text_at, IsUsed}
use Rattle.row_index.specs.Edits.{index_at}
use Rattle.tree_row.specs.Rows.{row_length, index_base, Encodes}
use Rattle.tree_row.specs.OpeningRow.{opening_row}

later : (capacity k : ℕ) → 1 < k → k < row_length capacity → get_or (opening_row capacity) k 0 ≡ 0
later capacity k past l =
    let m = row_length capacity in
    get_or-set_other (set (replicate m 0) 0 1) 1 k 1 0 (λ e. absurd (omega arith)) ∙ get_or-set_other (replicate m 0) 0 k 1 0
    (λ e. absurd (omega arith)) ∙ get_or-replicate m k 0 0 (omega arith)

none_used : (capacity s : ℕ) → ¬ (IsUsed (capacity + 1) (slot_at (opening_row capacity)) s)
none_used capacity s h = h.used (later capacity (164 * s + 0) (let p = h.past_root in omega arith)
    (let w = h.within in let past = h.past_root in omega arith))

pub length-opening : (capacity : ℕ) → length (opening_row capacity) ≡ row_length capacity
length-opening capacity = let m = row_length capacity in length-set (set (replicate m 0) 0 1) 1 1 ∙ length-set (replicate m 0) 0 1
    ∙ length-replicate m 0

pub opens : (capacity : ℕ) → Encodes capacity (opening_row capacity) root_alone
opens capacity =
    let m = row_length capacity in
    let row = opening_row capacity in
    let one : slice_index row 0 ≡ 1 = get_or-set_other (set (replicate m 0) 0 1) 1 0 1 0 (λ e. absurd (omega arith)) ∙ get_or-set_same
    (replicate m 0) 0 1 0 (let zeros : List ℕ = replicate m 0 in let l : length zeros ≡ m = length-replicate m 0 in omega arith) in
    let two : slice_index row 1 ≡ 1 = get_or-set_same (set (replicate m 0) 0 1) 1 1 0 (let zeros : List ℕ = replicate m 0 in
    let l : length zeros ≡ m = length-replicate m 0 in let k : length (set zeros 0 1) ≡ length zeros = length-set zeros 0 1 in
    omega arith) in
    let three : slice_index row 2 ≡ 0 = later capacity 2 (omega arith) (omega arith) in
    let four : slice_index row 3 ≡ 0 = later capacity 3 (omega arith) (omega arith) in
    record {
      long = length-opening capacity;
      slots = record {
        root = record {
          within = omega arith;
          kind = one;
          node = two;
          parent = three;
          component = ap (λ (z : ℕ). text_at row 4 (z % 65536))
              four;
          text = ap (λ (z : ℕ). text_at row 36 (z / 65536)) four;
        };
        in_directory = λ s h. absurd (none_used capacity s h);
        in_range = λ s h. absurd (none_used capacity s h);
        there = λ s h. absurd (none_used capacity s h);
        held = λ d c e h. absurd (none-some e h);
        once = λ s r h k same. absurd (none_used capacity s h);
      };
      index = record {
        found = λ s h. absurd (none_used capacity s h);
        once = λ p q s near far h one two. absurd (none_used capacity s h);
        others = λ p near. inl (let z : index_at row (index_base capacity) p ≡ 0 =
            later capacity (index_base capacity + p) (omega arith) (omega arith) in omega arith);
      };
    }
