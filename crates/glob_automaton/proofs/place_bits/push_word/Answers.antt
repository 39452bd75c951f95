-- The next bit's place is appended, until there is none.
use Rattle.std.proofs.Common.{inl, inr, ⊎_elim, ◌%◌, true≢false, sym, ap, ◌∙◌, arith}
use Rattle.std.proofs.lemmas.Bool.{cases_lt}
use Rattle.glob_automaton.specs.inner.PlaceBits.{is_bit}
use Rattle.glob_automaton.proofs.place_bits.push_word.Goals as goal

pub loop-bit-init : goal.loop-bit-init
loop-bit-init c = record {
  small = omega arith;
  sorted = c.requires.sorted;
  below = λ q h. omega (arith, c.requires.below q h);
  places = λ q. (λ h. inl h, λ h. ⊎_elim (λ t. t) (λ t. absurd (omega (arith, t.1))) h);
}

pub push-requires-clause-below : goal.push-requires-clause-below
push-requires-clause-below c q h = omega (arith, c.loop-bit.invariant.below q h, c.in-Some.ensures.some.after)

pub loop-bit-preserved : goal.loop-bit-preserved
loop-bit-preserved c =
    let next = c.in-Some.ensures.some in
    let bit = c.in-Some.bit in
    record {
      small = omega (arith, next.small);
      sorted = c.in_ok-push.ensures.sorted;
      below = λ q h. ⊎_elim
          (λ old. omega (arith, c.loop-bit.invariant.below q old, next.after))
          (λ e. omega (arith, e))
          ((c.in_ok-push.ensures.places q).0 h);
      places = λ q. (
        λ h. ⊎_elim
            (λ old. ⊎_elim (λ t. inl t) (λ t. inr (t.0, omega (arith, t.1, next.after), t.2)) ((c.loop-bit.invariant.places q).0 old))
            (λ e. inr (
              omega (arith, e, next.small),
              omega (arith, e, next.small),
              ap (is_bit c.args.word) (omega (arith, e, next.small))
                  ∙ next.set,
            ))
            ((c.in_ok-push.ensures.places q).0 h),
        λ h. (c.in_ok-push.ensures.places q).1 (⊎_elim
            (λ t. inl ((c.loop-bit.invariant.places q).1 (inl t)))
            (λ t. ⊎_elim
            (λ lt. inl ((c.loop-bit.invariant.places q).1 (inr (t.0, lt, t.2))))
            (λ ge. ⊎_elim
            (λ before. absurd (true≢false (sym t.2 ∙ next.none_before (q % 64) ge before)))
            (λ le. inr (omega (arith, t.0, t.1, le)))
            (cases_lt (q % 64) bit))
            (cases_lt (q % 64) c.loop-bit.from))
            h),
      );
    }

pub returns-clause-places : goal.returns-clause-places
returns-clause-places c q = (
  λ h. ⊎_elim (λ t. inl t) (λ t. inr (t.0, t.2)) ((c.loop-bit.invariant.places q).0 h),
  λ h. (c.loop-bit.invariant.places q).1 (⊎_elim
      (λ t. inl t)
      (λ t. ⊎_elim
      (λ lt. inr (t.0, lt, t.1))
      (λ ge. absurd (true≢false (sym t.1 ∙ c.next_bit.ensures.none c.in_default.is (q % 64) ge (omega arith))))
      (cases_lt (q % 64) c.loop-bit.from))
      h),
)
