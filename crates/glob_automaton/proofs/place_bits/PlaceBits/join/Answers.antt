use Rattle.std.proofs.Common.{◌≡◌, ◌∙◌, ⊎_elim, ◌≤◌, ◌||◌, ℕ, length, sym, ap, arith}
use Rattle.glob_automaton.specs.inner.PlaceBits.{has_from, has_place}
use Rattle.glob_automaton.proofs.PlaceLists.{all_joined, either_has, from_within, same_places}
use Rattle.glob_automaton.proofs.place_bits.PlaceBits.join.Goals as goal

-- the places of the words when all are joined
joined : (c : goal.After-widen) (q : ℕ) → has_place c.widen.new.self.words.items q
    ≡ (has_place c.make_room.new.self.words.items q || has_from c.args.closure.now.first c.args.closure.now.words.items q)
joined c q =
    let closure = c.args.closure.now in
    let all : length closure.words.items ≤ c.loop-index.index =
    omega (arith, c.loop-index-test.false, c.len-index-end.ensures, closure.words.ok.0) in
    ap (λ z. has_place z.items q) c.widen.ensures.words
    ∙ all_joined c.make_room.new.self.words.items c.loop-index.self.words.items closure.first closure.words.items c.loop-index.index all
    c.loop-index.invariant.joined c.loop-index.invariant.same q

pub returns-clause-places : goal.returns-clause-places
returns-clause-places c q =
    joined c q
    ∙ ap (λ z. z || has_from c.args.closure.now.first c.args.closure.now.words.items q)
    (same_places c.args.self.now.words.items c.make_room.new.self.words.items c.in_ok-make_room.ensures.same q)

pub returns-clause-within : goal.returns-clause-within
returns-clause-within c =
    let closure = c.args.closure.now in
    let was = c.in_ok-make_room.ensures.within in
    let long : length c.widen.new.self.words.items ≡ length c.make_room.new.self.words.items =
    ap (λ z. length z.items) c.widen.ensures.words ∙ c.loop-index.invariant.long in
    record {
      few = omega (arith, long, was.few);
      end_there = ⊎_elim
          (λ e. omega (arith, e, long, was.end_there, c.loop-index.invariant.ended))
          (λ e. omega (arith, e, long, c.in_ok-make_room.ensures.room, c.len.ensures, closure.words.ok.0))
          c.widen.ensures.end.2;
      within = λ q has. ⊎_elim
          (λ old. let t = was.within q old in (
            omega (arith, t.0, c.widen.ensures.begin.0, c.loop-index.invariant.begun),
            omega
                (arith, t.1, c.widen.ensures.end.0, c.loop-index.invariant.ended),
          ))
          (λ new. let t = from_within closure.first closure.words.items q new in
          (omega (arith, t.0, c.widen.ensures.begin.1), omega (arith, t.1, c.widen.ensures.end.1, c.len.ensures, closure.words.ok.0)))
          (either_has (has_place c.make_room.new.self.words.items q) (has_from closure.first closure.words.items q)
          (sym (joined c q) ∙ has));
    }
