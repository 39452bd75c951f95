-- The least free base is in this window, or after it.
use Rattle.std.proofs.Common.{◌≡◌, ◌∙◌, ◌<◌, ℕ, true, false, sym, subst, arith}
use Rattle.table_image.specs.inner.TakenCells.{is_bit}
use Rattle.table_image.proofs.WordBits.{bits_all, first_unset}
use Rattle.table_image.proofs.TakenCells.{free_past_words, none_before}
use Rattle.table_image.proofs.taken.Taken.least_base.Goals as goal

pub loop-base-preserved : goal.loop-base-preserved
loop-base-preserved c = record {
  behind = omega (arith, c.loop-base.invariant.behind);
  end = c.loop-base.invariant.end;
  low = let end = c.loop-base.invariant.end in omega (arith, end, c.loop-base-test.true, c.requires.few);
  none = none_before c.args.self.now c.args.bytes.now c.args.from c.loop-base.base c.blocked-blocked.result 64 c.loop-base.invariant.none
      c.blocked-blocked.ensures
      (omega arith) (λ i lt. bits_all c.blocked-blocked.result i c.if-blocked.false lt);
}

pub returns-then-blocked : goal.returns-then-blocked
returns-then-blocked c =
    let n = c.blocked-blocked.result in
    let t = c.trailing_ones.result in
    let w : (t < 64) × (is_bit n t ≡ false) × ((i : ℕ) → i < t → is_bit n i ≡ true) =
    subst (λ z. (z < 64) × (is_bit n z ≡ false) × ((i : ℕ) → i < z → is_bit n i ≡ true)) (sym c.trailing_ones.ensures)
    (first_unset n c.blocked-blocked.type_inv c.if-blocked.true) in
    record {
      behind = omega (arith, c.loop-base.invariant.behind);
      free = sym (c.blocked-blocked.ensures t w.0) ∙ w.1;
      least = none_before c.args.self.now c.args.bytes.now c.args.from c.loop-base.base n t c.loop-base.invariant.none
          c.blocked-blocked.ensures (omega (arith, w.0)) w.2;
    }

pub returns : goal.returns
returns c = record {
  behind = c.loop-base.invariant.behind;
  free = free_past_words c.args.self.now c.args.bytes.now c.loop-base.base
      (omega (arith, c.loop-base.invariant.end, c.loop-base-test.false));
  least = c.loop-base.invariant.none;
}
