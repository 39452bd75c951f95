-- The places of one more word are read off.
use Rattle.std.proofs.Common.{◌≡◌, inl, inr, ⊎_elim, ◌+◌, ◌/◌, ◌%◌, ◌<◌, ℕ, true, Contains, slice_index_or, sym, ap, ◌∙◌, arith}
use Rattle.std.proofs.lemmas.Bool.{cases_lt}
use Rattle.std.proofs.lemmas.List.{get_or_default}
use Rattle.glob_automaton.specs.inner.PlaceBits.{has_place, is_bit}
use Rattle.glob_automaton.proofs.place_bits.PlaceBits.read_off.Goals as goal

pub loop-index-preserved : goal.loop-index-preserved
loop-index-preserved c =
    let words = c.args.self.now.words.items in
    let index = c.loop-index.index in
    let word : c.index.result.now ≡ slice_index_or words index 0 =
    c.index.ensures ∙ get_or_default words index c.index.result.now 0 (omega (arith, c.loop-index-test.true, c.requires.end_there)) in
    let here : (q : ℕ) → q / 64 ≡ index → is_bit c.index.result.now (q % 64) ≡ has_place words q =
    λ q at. ap (λ z. is_bit z (q % 64)) (word ∙ ap (λ z. slice_index_or words z 0) (sym at)) in
    let there : (q : ℕ) → Contains c.push_word.new.places.items q → (q / 64 < index + 1) × (has_place words q ≡ true) =
    λ q h. ⊎_elim
    (λ old. let t = (c.loop-index.invariant.places q).0 old in (omega (arith, t.0), t.1))
    (λ t. (omega (arith, t.0), sym (here q t.0) ∙ t.1))
    ((c.in_ok-push_word.ensures.places q).0 h) in
    record {
      sorted = c.in_ok-push_word.ensures.sorted;
      below = λ q h. omega (arith, (there q h).0);
      places = λ q. (
        there q,
        λ t. (c.in_ok-push_word.ensures.places q).1 (⊎_elim
            (λ lt. inl ((c.loop-index.invariant.places q).1 (lt, t.1)))
            (λ le. let at : q / 64 ≡ index = omega (arith, le, t.0) in inr (at, here q at ∙ t.1))
            (cases_lt (q / 64) index)),
      );
    }
