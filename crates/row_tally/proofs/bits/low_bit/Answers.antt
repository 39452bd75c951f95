use Rattle.std.proofs.Common.{w64}
use Rattle.std.proofs.lemmas.Nat.Bits.{bit_at-trailing_zeros}
use Rattle.row_tally.proofs.bits.low_bit.Goals as goal

pub returns : goal.returns
returns c =
    let its = bit_at-trailing_zeros w64 c.args.word c.requires c.ranges.word.fits in
    record { small = its.0; here = its.1; none_before = its.2 }
