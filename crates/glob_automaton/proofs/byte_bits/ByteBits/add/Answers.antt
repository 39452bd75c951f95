use Rattle.std.proofs.Common.{◌∙◌, ◌||◌, ◌==◌, ap, arith}
use Rattle.glob_automaton.specs.inner.PlaceBits.{has_place}
use Rattle.glob_automaton.proofs.PlaceLists.{one_added}
use Rattle.glob_automaton.proofs.byte_bits.ByteBits.add.Goals as goal

pub returns : goal.returns
returns c b =
    let words = c.args.self.now.words in
    let place = c.from-place.result in
    one_added words place (omega (arith, c.from-place.ensures)) b
    ∙ ap (λ z. has_place words b || (b == z)) c.from-place.ensures
