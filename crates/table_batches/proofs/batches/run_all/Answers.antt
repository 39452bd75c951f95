-- Each byte has taken one look-up.
use Rattle.std.proofs.Common.{◌≡◌, ℕ, ◌<◌, length, arith}
use Rattle.std.proofs.lemmas.List.Elements.{All-from_get_or}
use Rattle.names.specs.Bytes.{are_bytes}
use Rattle.table_batches.proofs.NameLookUps.{names_flat}
use Rattle.table_batches.proofs.batches.run_all.Goals as goal

pub returns-clause-look_ups : goal.returns-clause-look_ups
returns-clause-look_ups g c =
    let t = g.E.Entries.table c.args.entries.now in
    let text = c.args.text.now in
    let fits : are_bytes text = All-from_get_or (λ (b : ℕ). b < 256) text 0 (λ i lt. omega (arith, c.type_inv.text i)) in
    let none : t.depth_bound ≡ 0 = omega (arith, c.depth_bound.ensures, c.if-depth_bound-gt0.false) in
    let count = length c.args.states.now in
    let flat = names_flat t text c.args.offsets.now count count
    (λ s bytes there are. c.look_ups_are_bounded.ensures t s bytes c.stay_in_bounds.ensures there are) fits c.requires.start
    c.requires.offsets none (omega arith) in
    omega (arith, flat)
