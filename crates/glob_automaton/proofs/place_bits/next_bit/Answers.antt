use Rattle.std.proofs.Common.{◌<◌, ◌/◌, ◌^◌, arith}
use Rattle.glob_automaton.proofs.WordBits.{next_from, none_from}
use Rattle.glob_automaton.proofs.place_bits.next_bit.Goals as goal

pub returns-then-rest-eq0-clause-none : goal.returns-then-rest-eq0-clause-none
returns-then-rest-eq0-clause-none c e i le lt = none_from c.args.word c.args.from i c.if-rest-eq0.true le

pub returns-clause-some : goal.returns-clause-some
returns-clause-some c =
    let some : 0 < c.args.word / 2 ^ c.args.from = let other = c.if-rest-eq0.false in omega (arith, other) in
    next_from c.args.word c.args.from c.ranges.word.fits some
