-- The next byte's look-ups are among those of all bytes.
use Rattle.std.proofs.Common.{◌+◌, ap, get_or, arith}
use Rattle.tables.specs.Tables.{look_ups}
use Rattle.table_verifier.specs.laws.StepsOfTables.{look_ups_next, look_ups_of_part}
use Rattle.table_verifier.proofs.byte_loop.walk.Goals as goal

pub leave-left-requires-clause-look_ups : goal.leave-left-requires-clause-look_ups
leave-left-requires-clause-look_ups g c =
    let t = g.E.Entries.table c.args.entries.now in
    let next = look_ups_next t c.args.start c.args.bytes.now c.loop-i.i c.loop-i.state c.loop-i-test.true c.loop-i.invariant.last in
    let part = look_ups_of_part t c.args.start (c.loop-i.i + 1) c.args.bytes.now in
    let same = ap (λ s. look_ups t s (get_or c.args.bytes.now c.loop-i.i 0)) c.stand-at.ensures.state in
    omega (arith, next, part, same, c.loop-i.invariant.again, c.requires.look_ups)
