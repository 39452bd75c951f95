use Rattle.std.proofs.Common.{◌+◌, arith}
use Rattle.row_tally.proofs.InitialTally.{first_counted, first_follows}
use Rattle.row_tally.proofs.tally.RowTally.new.Goals as goal

pub invariant_of-result : goal.invariant_of-result
invariant_of-result c =
    let n = c.args.capacity + 1 in
    let notes = c.in-Ok.ensures.items_if_clones_equal (λ y h. h) in
    let counts = c.in-Ok-vec.ensures.items_if_clones_equal (λ y h. h) in
    rw (notes, counts) (first_counted n c.in_ok-free.free (omega arith) (omega arith) c.in_ok-free.ensures.long
    c.in_ok-free.ensures.slots)

pub returns : goal.returns
returns c =
    let notes = c.in-Ok.ensures.items_if_clones_equal (λ y h. h) in
    rw notes (first_follows c.args.capacity)
