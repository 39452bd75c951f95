-- The first words of a row, and what its keeper knows then.
use Rattle.std.proofs.Common.{◌≡◌, ℕ, suc, ◌+◌, ◌≤◌, List, [], ◌∷◌, length, set, replicate, sym, refl, ap, ◌∙◌, subst, arith}
use Rattle.atomic_table.specs.Seated.{TableId}
use Rattle.directory_tree.specs.Tree.{root_alone}
use Rattle.row_index.specs.Places.{index_length}
use Rattle.tree_row.specs.Slots.{slots_length}
use Rattle.tree_row.specs.Rows.{row_length}
use Rattle.tree_row.specs.OpeningRow.{opening_row}
use Rattle.tree_row.specs.laws.OpeningRow.{length-opening, opens}
use Rattle.row_rule.specs.Row.{KeptBy}
use Rattle.row_rule.specs.Steps.{at_rest}
use Rattle.row_rule.specs.laws.Rule.{opening_kept}
use Rattle.row_plan.specs.Changes.{EncodesChanges}
use Rattle.dentry_cache.specs.Seats.{Mine, keeper_of, IsKeeping}
use Rattle.dentry_cache.specs.Told.{first_view}
use Rattle.dentry_cache.specs.inner.Knowledge.{RowSeat, held, KeeperKnows}
use Rattle.dentry_cache.proofs.KeeperParts.{kept_first}

-- the count, which is 0, and the cells of the root alone
pub first_words : (capacity size : ℕ) → size ≡ index_length capacity →
    set (set (replicate (slots_length (capacity + 1) + size + 1) 0) 1 1) 2 1 ≡ 0 ∷ opening_row capacity
first_words capacity size is = ap (λ (n : ℕ). set (set (replicate n 0) 1 1) 2 1) one_more where
  one_more : slots_length (capacity + 1) + size + 1 ≡ suc (row_length capacity)
  one_more = omega (arith, is)

pub rule_first : (capacity : ℕ) (words : List ℕ) → words ≡ 0 ∷ opening_row capacity
    → KeptBy (EncodesChanges capacity) (row_length capacity) (at_rest [] (opening_row capacity)) words (first_view capacity ∷ [])
rule_first capacity words is =
    subst (λ (ws : List ℕ). KeptBy (EncodesChanges capacity) (row_length capacity) (at_rest [] (opening_row capacity)) ws
    (first_view capacity ∷ [])) (sym is)
    (opening_kept (EncodesChanges capacity) (row_length capacity) (opening_row capacity) 0 (length-opening capacity)
    (root_alone, refl, opens capacity))

pub knows_first : (table : TableId) (key : ℕ) (seat : RowSeat) (capacity : ℕ) (words : List ℕ) → capacity ≤ 16384 →
    words ≡ 0 ∷ opening_row capacity → table.words ≡ length words → seat.table_id ≡ table
    → seat.me ≡ (first_view capacity, []) → key ≡ capacity → KeeperKnows table key seat capacity 2 0
knows_first table key seat capacity words small is count own me key_is =
    let at_first : (IsKeeping seat.me × ((keeper_of seat.me.0) ≡ at_rest [] (opening_row capacity))) =
    subst (λ (m : Mine). IsKeeping m × ((keeper_of m.0) ≡ at_rest [] (opening_row capacity))) (sym me) (refl, refl) in
    record {
      own = own;
      at = record {
        words = count ∙ (ap length is ∙ (let l = length-opening capacity in omega (arith, l)));
        key_is =
            key_is;
        small = small;
      };
      role = at_first.0;
      shut = ap (λ k. k.pending) at_first.1;
      kept = kept_first (held seat capacity) (ap (λ k. k.history) at_first.1) (ap (λ k. k.cells) at_first.1);
    }
