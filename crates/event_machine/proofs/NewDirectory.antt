-- The first change of a row: five cells make the directory `/b` in the row of the root alone.
use Rattle.std.proofs.Common.{◌≡◌, ◌≢◌, Bool, true, ℕ, ◌+◌, ◌%◌, ◌/◌, ◌<◌, ◌≤◌, List, [], ◌∷◌, length, set, replicate, sym, refl, ap, ◌∙◌}
use Rattle.std.proofs.Common.{subst, arith, length-set, get_or-set_other, get_or-set_same}
use Rattle.std.specs.Prelude.{slice_index, slice_set, Ok}
use Rattle.std.proofs.lemmas.Bool.{lt-ltb}
use Rattle.std.proofs.lemmas.List.{get_or-replicate, set-get_or}
use Rattle.directory_tree.specs.declared.node.NodeKind.TheVariants.{Directory}
use Rattle.directory_tree.specs.Tree.{Tree, root_alone}
use Rattle.directory_tree.specs.Apply.{and_then, entry, with_entry, apply, has_room, tree_after}
use Rattle.tree_row.specs.laws.WorldsAfter.{world_after}
use Rattle.path_lookup.specs.World.{World}
use Rattle.change_checks.specs.declared.act.Act.{Act}
use Rattle.change_checks.specs.declared.act.Act.TheVariants as act
use Rattle.change_checks.specs.declared.act.NewNode.TheVariants as new
use Rattle.tree_row.specs.Slots.{text_at, packed}
use Rattle.row_index.specs.Places.{around, index_length}
use Rattle.row_index.specs.Hashes.{home}
use Rattle.row_index.specs.laws.Rounds.{around_within}
use Rattle.row_index.specs.laws.Homes.{home_within}
use Rattle.row_index.specs.laws.Sizes.{index_some}
use Rattle.tree_row.specs.Rows.{row_length, index_base, Encodes}
use Rattle.tree_row.specs.OpeningRow.{opening_row}
use Rattle.tree_row.specs.laws.OpeningRow.{length-opening, opens}
use Rattle.tree_row.specs.declared.look.RowEntry.{RowEntry}
use Rattle.row_rule.specs.declared.cell.Cell.{Cell}
use Rattle.row_rule.specs.Row.{write}
use Rattle.row_plan.specs.Leaves.{with_slot, new_slot, AddsToIndex}
use Rattle.row_plan.specs.inner.Entries.{AddsEntry}
use Rattle.row_plan.specs.inner.Rows.{SetsSlot}
use Rattle.row_plan.specs.Plan.{IsLean, outcome_in}
use Rattle.row_plan.proofs.Drafts.{begins, grows}
use Rattle.row_plan.proofs.Encoded.{made}
use Rattle.row_plan.specs.Changes.{EncodesChanges, IsPlan}
use Rattle.event_machine.specs.Examples.{mkdir_b}

-- where the search for it in the index begins
abbrev index_place : ℕ → ℕ
index_place capacity = index_base capacity + around (index_length capacity) (home (index_length capacity) 0 (98 ∷ []) + 0)

-- a directory, of node 2, with a component of one byte, which is `b`; the word that says that it is in the root's slot is already
-- there; and the word of the index that names slot 1
abbrev pub five_cells : ℕ → List Cell
five_cells capacity =
    record { place = 164; word = 1 } ∷ record { place = 165; word = 2 } ∷ record { place = 167; word = 1 }
    ∷ record { place = 168; word = 98 } ∷ record { place = index_place capacity; word = 2 } ∷ []

abbrev tree_with_b : Tree
tree_with_b = with_entry root_alone (entry 1 (98 ∷ []) 2 Directory) 3

letter : packed (98 ∷ []) 0 ≡ 98
unfolding packed
letter = refl

-- the act that the change amounts to: a directory is made in the root
abbrev make_b : Act RowEntry
make_b = act.Make record { directory = record { slot = 0 }; component = record { ref_ptr = (0, 0); now = 98 ∷ [] } } new.Directory

module _ (capacity : ℕ) (room : 1 ≤ capacity) where
  abbrev row : List ℕ
  row = opening_row capacity

  abbrev first : List ℕ
  first = slice_set row 164 1

  abbrev second : List ℕ
  second = slice_set first 165 2

  abbrev third : List ℕ
  third = slice_set second 167 1

  abbrev after : List ℕ
  after = slice_set third 168 98

  long : length row ≡ row_length capacity
  long = length-opening capacity

  abbrev final : List ℕ
  final = slice_set after (index_place capacity) 2

  -- after the root's two words all is 0
  zero_at : (k : ℕ) → 1 < k → k < row_length capacity → slice_index row k ≡ 0
  zero_at k past l =
      let m = row_length capacity in
      get_or-set_other (set (replicate m 0) 0 1) 1 k 1 0 (λ e. absurd (omega arith)) ∙ get_or-set_other (replicate m 0) 0 k 1 0
      (λ e. absurd (omega arith))
      ∙ get_or-replicate m k 0 0 (omega arith)

  -- a word that is not set
  kept_after : (k : ℕ) → k ≢ 164 → k ≢ 165 → k ≢ 167 → k ≢ 168 → slice_index after k ≡ slice_index row k
  kept_after k a b c d =
      get_or-set_other third 168 k 98 0 d ∙ get_or-set_other second 167 k 1 0 c ∙ get_or-set_other first 165 k 2 0 b
      ∙ get_or-set_other row 164 k 1 0 a

  long_first : length first ≡ length row
  long_first = length-set row 164 1

  long_second : length second ≡ length row
  long_second = length-set first 165 2 ∙ long_first

  long_third : length third ≡ length row
  long_third = length-set second 167 1 ∙ long_second

  long_after : length after ≡ length row
  long_after = length-set third 168 98 ∙ long_third

  kind_is : slice_index after 164 ≡ 1
  kind_is =
      get_or-set_other third 168 164 98 0 (λ e. absurd (omega arith)) ∙ get_or-set_other second 167 164 1 0 (λ e. absurd (omega arith))
      ∙ get_or-set_other first 165 164 2 0 (λ e. absurd (omega arith)) ∙ get_or-set_same row 164 1 0 (let l = long in omega arith)

  node_is : slice_index after 165 ≡ 2
  node_is =
      get_or-set_other third 168 165 98 0 (λ e. absurd (omega arith)) ∙ get_or-set_other second 167 165 1 0 (λ e. absurd (omega arith))
      ∙ get_or-set_same first 165 2 0 (let l = long in let m = long_first in omega arith)

  parent_is : slice_index after 166 ≡ 0
  parent_is =
      kept_after 166 (λ e. absurd (omega arith)) (λ e. absurd (omega arith)) (λ e. absurd (omega arith)) (λ e. absurd (omega arith))
      ∙ zero_at 166 (omega arith) (omega arith)

  lengths_are : slice_index after 167 ≡ 1
  lengths_are =
      get_or-set_other third 168 167 98 0 (λ e. absurd (omega arith)) ∙ get_or-set_same second 167 1 0 (let l = long in let m =
      long_second in omega arith)

  byte_is : slice_index after 168 ≡ 98
  byte_is = get_or-set_same third 168 98 0 (let l = long in let m = long_third in omega arith)

  -- so slot 1 has the entry, and the others stay
  sets : SetsSlot row 1 (new_slot Directory 2 0 (98 ∷ [])) after
  sets =
      let kind = kind_is in
      let node = node_is in
      let parent = parent_is in
      let component : text_at after 168 (slice_index after 167 % 65536) ≡ 98 ∷ [] =
      ap (λ (z : ℕ). text_at after 168 (z % 65536)) lengths_are ∙ ap (λ (z : ℕ). z % 256 ∷ []) byte_is in
      let text : text_at after 200 (slice_index after 167 / 65536) ≡ [] = ap (λ (z : ℕ). text_at after 200 (z / 65536)) lengths_are in
      record {
        long = long_after;
        here = λ i. record { kind = kind i; node = node i; parent = parent i; component = component i; text = text i };
        others = λ k out. kept_after k (λ e. grind arith) (λ e. grind arith) (λ e. grind arith) (λ e. grind arith);
      }

  -- the word of the index is one of the row's, and no cell before it
  place_low : around (index_length capacity) (home (index_length capacity) 0 (98 ∷ []) + 0) < index_length capacity
  place_low =
      let low = home_within (index_length capacity) 0 (98 ∷ []) (index_some capacity) in
      around_within (index_length capacity) (home (index_length capacity) 0 (98 ∷ []) + 0) (omega arith)

  place_kept : slice_index after (index_place capacity) ≡ slice_index row (index_place capacity)
  place_kept =
      let low = place_low in
      kept_after (index_place capacity) (λ e. absurd (omega arith)) (λ e. absurd (omega arith)) (λ e. absurd (omega arith))
      (λ e. absurd (omega arith))

  place_free : slice_index row (index_place capacity) ≡ 0
  place_free = let low = place_low in zero_at (index_place capacity) (omega arith) (omega arith)

  adds : AddsToIndex capacity 0 (98 ∷ []) 1 after final
  adds =
      let some = index_some capacity in
      let free : slice_index after (index_place capacity) ≡ 0 = place_kept ∙ place_free in (
        0,
        record { within = omega arith; vacant = omega arith; first = λ i l. absurd (omega arith) },
        refl,
      )

  -- no superfluous cell: each is added to those before it
  lean : IsLean row (five_cells capacity)
  lean =
      let l = long in
      let one = grows row [] row 164 1 (omega arith) (begins row) refl (λ e. let z = zero_at 164 (omega arith) (omega arith) in
      absurd (omega arith)) in
      let two = grows row _ first 165 2 (omega arith) one (get_or-set_other row 164 165 1 0 (λ e. absurd (omega arith)))
      (λ e. let z = zero_at 165 (omega arith) (omega arith) in absurd (omega arith)) in
      let three = grows row _ second 167 1 (omega arith) two (get_or-set_other first 165 167 2 0 (λ e. absurd (omega arith))
      ∙ get_or-set_other row 164 167 1 0 (λ e. absurd (omega arith)))
      (λ e. let z = zero_at 167 (omega arith) (omega arith) in absurd (omega arith)) in
      let four = grows row _ third 168 98 (omega arith) three
      (get_or-set_other second 167 168 1 0 (λ e. absurd (omega arith)) ∙ get_or-set_other first 165 168 2 0 (λ e. absurd (omega arith))
      ∙ get_or-set_other row 164 168 1 0 (λ e. absurd (omega arith)))
      (λ e. let z = zero_at 168 (omega arith) (omega arith) in absurd (omega arith)) in
      let low = place_low in
      let five = grows row _ after (index_place capacity) 2 (omega arith) four place_kept
      (λ e. let z = place_free in absurd (omega arith)) in
      five.lean

  -- the slot of the directory is the word that is there already
  parent_stays : slice_set second 166 0 ≡ second
  parent_stays =
      let z : slice_index second 166 ≡ 0 =
      get_or-set_other first 165 166 2 0 (λ e. absurd (omega arith)) ∙ get_or-set_other row 164 166 1 0 (λ e. absurd (omega arith))
      ∙ zero_at 166 (omega arith) (omega arith) in
      ap (set second 166) (sym z) ∙ set-get_or second 166 0

  leaves : after ≡ with_slot row 1 (new_slot Directory 2 0 (98 ∷ []))
  leaves =
      ap (λ (cells : List ℕ). slice_set (slice_set cells 167 1) 168 98) (sym parent_stays)
      ∙ ap (slice_set (slice_set (slice_set second 166 0) 167 1) 168) (sym letter)

  abbrev world : World
  world = world_after capacity [] row root_alone refl

  has_place : has_room capacity root_alone ≡ true
  has_place = lt-ltb 0 capacity (omega arith)

  makes : outcome_in capacity world mkdir_b ≡ Ok tree_with_b
  makes = ap (λ (b : Bool). apply root_alone b mkdir_b) has_place

  -- the plan puts the entry into the first free slot, and adds this slot to the index
  enters : AddsEntry capacity row (new_slot Directory 2 0 (98 ∷ [])) (five_cells capacity)
  enters = record {
    lean = lean;
    slot = 1;
    first = record {
      free = record { past_root = omega arith; within = omega arith; free = zero_at 164 (omega arith) (omega arith) };
      first = λ r free. let past = free.past_root in omega arith;
    };
    sets = subst (SetsSlot row 1 (new_slot Directory 2 0 (98 ∷ []))) leaves sets;
    added = subst (λ (z : List ℕ). AddsToIndex capacity 0 (98 ∷ []) 1 z final) leaves adds;
  }

  encodes : Encodes capacity final tree_with_b
  encodes =
      let old = opens capacity in
      made capacity row world record { tree = old; named = λ s. refl } Directory 2 2 3 0 (98 ∷ []) (five_cells capacity)
      old.slots.root.within refl refl (omega arith) (omega arith) refl enters

  pub is_plan : IsPlan capacity row [] mkdir_b (five_cells capacity)
  is_plan =
      let old = opens capacity in
      let kind = old.slots.root.kind in (
        world,
        refl,
        record { tree = old; named = λ s. refl },
        record {
          after = tree_with_b;
          made = makes;
          next = refl;
          encodes = encodes;
          lean = lean;
          act = make_b;
          comes = record {
            does = makes;
            tested = record { free = refl; directory = refl; room = has_place };
            holds = record { within = old.slots.root.within; filled = λ e. absurd (omega arith) };
          };
          leaves = (enters.slot, enters.first, enters.added);
        },
      )

pub encodes_change : (capacity : ℕ) → 1 ≤ capacity → EncodesChanges capacity
    (write (opening_row capacity) (five_cells capacity)) (mkdir_b ∷ [])
encodes_change capacity room =
    let result : tree_after capacity (mkdir_b ∷ []) ≡ Ok tree_with_b = ap (λ (b : Bool). and_then (apply root_alone b mkdir_b) (λ t. Ok t))
    (lt-ltb 0 capacity (omega arith)) in
    (tree_with_b, result, encodes capacity room)
