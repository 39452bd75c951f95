use Rattle.std.proofs.Common.{◌≡◌, ℕ, List, sym, refl, subst, ◌∙◌}
use Rattle.directory_tree.specs.Tree.{root_alone}
use Rattle.path_lookup.specs.World.{World}
use Rattle.tree_row.specs.Slots.{slot_at}
use Rattle.tree_row.specs.Worlds.{spot_at, EncodesWorld}
use Rattle.tree_row.specs.OpeningRow.{opening_row}
use Rattle.row_plan.specs.Plan.{Plannable}
use Rattle.tree_cases.proofs.twins.Twins.new.Goals as goal

pub invariant_of-result : goal.invariant_of-result
invariant_of-result c =
    let row = opening_row c.args.capacity in
    let w : World = record { tree = root_alone; named = spot_at (slot_at row); sound = c.root_alone_is_well_formed.ensures } in
    let enc : EncodesWorld c.args.capacity row w = record {
      tree = c.opening_row_encodes_root.ensures c.args.capacity;
      named = λ s. refl;
    } in
    subst (λ (known : ℕ × List ℕ). Plannable known.0 (λ z. z ≡ known.1) 2) (sym (c.new.ensures ∙ c.in_ok-row.ensures))
    (row, w, refl, enc, refl)
