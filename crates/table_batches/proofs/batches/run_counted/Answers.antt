-- The look-ups of all names are within the bounds of their bytes.
use Rattle.std.proofs.Common.{rules, ℕ, ◌+◌, ◌*◌, ◌<◌, ◌≤◌, get_or, length, arith}
use Rattle.std.proofs.lemmas.List.Elements.{All-from_get_or}
use Rattle.names.specs.Bytes.{are_bytes}
use Rattle.table_batches.specs.Batches.{look_ups_of_names}
use Rattle.table_batches.proofs.NameLookUps.{all_bounded, ascended}
use Rattle.table_batches.proofs.Sides.{part_long}
use Rattle.table_batches.proofs.batches.run_counted.Goals as goal

pub slice_bounds-names-count : goal.slice_bounds-names-count
slice_bounds-names-count g c = ascended c.args.text.now c.args.offsets.now (length c.args.states.now) (length c.args.states.now)
    c.requires.offsets (omega arith)

pub slice_bounds-names-start : goal.slice_bounds-names-start
slice_bounds-names-start g c =
    let up = ascended c.args.text.now c.args.offsets.now (length c.args.states.now) (length c.args.states.now) c.requires.offsets
    (omega arith) in
    search (up, rules)

pub run_all-requires-clause-look_ups : goal.run_all-requires-clause-look_ups
run_all-requires-clause-look_ups g c =
    let t = g.E.Entries.table c.args.entries.now in
    let text = c.args.text.now in
    let fits : are_bytes text = All-from_get_or (λ (b : ℕ). b < 256) text 0 (λ i lt. omega (arith, c.type_inv.text i)) in
    let most : look_ups_of_names t text c.args.offsets.now (length c.args.states.now) ≤ (t.depth_bound + 1) * length text =
    all_bounded t text c.args.offsets.now (length c.args.states.now)
    (λ s bytes there are. c.look_ups_are_bounded.ensures t s bytes c.stay_in_bounds.ensures there are) fits c.requires.start
    c.requires.offsets in
    omega (arith, most, c.new-again.ensures, c.requires.look_ups)

pub of_bytes-requires : goal.of_bytes-requires
of_bytes-requires g c =
    let t = g.E.Entries.table c.args.entries.now in
    let text = c.args.text.now in
    let count = length c.args.states.now in
    let fits : are_bytes text = All-from_get_or (λ (b : ℕ). b < 256) text 0 (λ i lt. omega (arith, c.type_inv.text i)) in
    let most : look_ups_of_names t text c.args.offsets.now count ≤ (t.depth_bound + 1) * length text =
    all_bounded t text c.args.offsets.now count
    (λ s bytes there are. c.look_ups_are_bounded.ensures t s bytes c.stay_in_bounds.ensures there are) fits c.requires.start
    c.requires.offsets in
    let up = ascended text c.args.offsets.now count count c.requires.offsets (omega arith) in
    let long = part_long text (get_or c.args.offsets.now 0 0) (get_or c.args.offsets.now count 0) up
    (c.requires.offsets.within count (omega arith)) in
    omega (arith, most, long, up, c.new-again.ensures, c.run_all.ensures.look_ups, c.requires.look_ups)

pub returns-clause-look_ups : goal.returns-clause-look_ups
returns-clause-look_ups g c =
    let text = c.args.text.now in
    let count = length c.args.states.now in
    let up = ascended text c.args.offsets.now count count c.requires.offsets (omega arith) in
    let long = part_long text (get_or c.args.offsets.now 0 0) (get_or c.args.offsets.now count 0) up
    (c.requires.offsets.within count (omega arith)) in
    omega (arith, long, up, c.new-again.ensures, c.run_all.ensures.look_ups, c.of_bytes.ensures)
