use Rattle.std.proofs.Common.{◌∙◌, ◌==◌, ◌/◌, ◌%◌, ◌*◌, ◌^◌, ◌<◌, ◌||◌, bit_or, length, ap, arith}
use Rattle.std.proofs.Math.ListN.{set}
use Rattle.std.proofs.lemmas.List.{get_or_default}
use Rattle.glob_automaton.specs.inner.PlaceBits.{has_place}
use Rattle.glob_automaton.proofs.PlaceLists.{one_added, same_places}
use Rattle.glob_automaton.proofs.place_bits.PlaceBits.add.Goals as goal

pub returns-clause-places : goal.returns-clause-places
returns-clause-places c q =
    let words = c.make_room.new.self.words.items in
    let place = c.args.place in
    let room : place / 64 < length words = omega (arith, c.in_ok-make_room.ensures.room) in
    ap (λ z. has_place z.items q) c.widen.ensures.words
    ∙ ap (λ w. has_place (set words (place / 64) (bit_or w (1 * 2 ^ (place % 64) % 2 ^ 64))) q)
    (c.index.ensures ∙ get_or_default words (place / 64) c.index.result.now 0 room)
    ∙ one_added words place room q
    ∙ ap (λ z. z || (q == place)) (same_places c.args.self.now.words.items words c.in_ok-make_room.ensures.same q)
