-- A product, once there is a state for each pair.
use Rattle.std.proofs.Common.{◌≡◌, inl, inr, ⊎_elim, ℕ, ◌<◌, ◌≤◌, List, length, drop, Some, slice_get, slice_index_or}
use Rattle.std.proofs.Common.{sym, ap, ◌∙◌, arith}
use Rattle.std.proofs.lemmas.Bool.{cases_lt}
use Rattle.std.proofs.lemmas.Option.{same_Some, slice_get_within, slice_get-get_or}
use Rattle.names.specs.declared.record.Record.{Record}
use Rattle.automaton_rows.specs.Automata.{Automaton, IsWhole, target, state_after}
use Rattle.automaton_rows.specs.declared.range.TargetRange.{TargetRange}
use Rattle.automaton_rows.specs.Rows.{rows_of, AreRows}
use Rattle.automaton_rows.specs.laws.RowLists.{row_at, rows_long, target_at, targets_long}
use Rattle.automaton_products.specs.declared.pairs.Pair.{Pair}
use Rattle.automaton_products.specs.Products.{pair, dead_pair, start_pair, next_pair, IsMet, IsProduct}
use Rattle.automaton_products.specs.ProductStates.{AreStates}
use Rattle.automaton_products.specs.laws.PairLaws.{dead_next, after_there}

abbrev pub tables : List TargetRange → List ℕ → List Record → ℕ → Automaton
tables ranges firsts records start = record { rows = rows_of ranges firsts; records = records; start = start }

module _ (a b : Automaton) (one : IsWhole a) (other : IsWhole b) (pairs : List Pair) (ranges : List TargetRange) (firsts : List ℕ)
    (records : List Record)
    (start : ℕ) (are : AreStates a b pairs ranges firsts records (length pairs)) (first : start ≤ 1)
    (begins : slice_get pairs start ≡ Some (start_pair a b)) where
  abbrev pub c : Automaton
  c = tables ranges firsts records start

  each : length (rows_of ranges firsts) ≡ length pairs
  each = rows_long ranges firsts ∙ are.each_row

  pair_at : (s : ℕ) → s < length pairs → slice_get pairs s ≡ Some (slice_index_or pairs s dead_pair)
  pair_at s lt = slice_get-get_or pairs s dead_pair lt

  pub are_rows : AreRows ranges firsts
  are_rows s lt = (are.row s (slice_index_or pairs s dead_pair) (omega (arith, lt, are.each_row))
      (pair_at s (omega (arith, lt, are.each_row)))).is_row

  step : (s byte : ℕ) (p : Pair) → slice_get pairs s ≡ Some p → byte < 256 → slice_get pairs (target c s byte)
      ≡ Some (next_pair a b p byte)
  step s byte p at small =
      let lt = slice_get_within pairs s p at in
      ap (slice_get pairs) (target_at ranges firsts s byte (omega (arith, lt, are.each_row)) small)
      ∙ (are.row s p lt at).targets byte small

  some : 0 < length pairs
  some = slice_get_within pairs 0 dead_pair are.few.0.dead

  -- the dead pair has number 0 alone
  is_dead : (i : ℕ) → slice_get pairs i ≡ Some dead_pair → i ≡ 0
  is_dead i at = ⊎_elim
      (λ lt. absurd (are.few.0.distinct 0 i dead_pair lt are.few.0.dead at))
      (λ le. omega (arith, le))
      (cases_lt 0 i)

  -- where both starts are dead, there is no other pair
  alone : start ≡ 0 → length pairs ≡ 1
  alone e =
      let both : start_pair a b ≡ dead_pair = same_Some (start_pair a b) dead_pair
      (sym begins ∙ ap (slice_get pairs) e ∙ are.few.0.dead) in
      let zero_one : a.start ≡ 0 = ap (λ (z : Pair). z.one) both in
      let zero_other : b.start ≡ 0 = ap (λ (z : Pair). z.other) both in
      let few_one : length a.rows ≡ 1 = ⊎_elim (λ h. absurd (omega (arith, h, zero_one))) (λ h. h.1) one.begins in
      let few_other : length b.rows ≡ 1 = ⊎_elim (λ h. absurd (omega (arith, h, zero_other))) (λ h. h.1) other.begins in
      ⊎_elim
      (λ more.
      let p : Pair = slice_index_or pairs 1 dead_pair in
      let at : slice_get pairs 1 ≡ Some p = pair_at 1 more in
      let met : IsMet a b p = are.few.0.met 1 p (omega arith) at in
      let low : state_after a met.0 ≡ 0 = let lt = after_there a met.0 one met.1 in omega (arith, lt, few_one) in
      let high : state_after b met.0 ≡ 0 = let lt = after_there b met.0 other met.1 in omega (arith, lt, few_other) in
      let dead : p ≡ dead_pair = met.2 ∙ ap (λ z. pair z (state_after b met.0)) low ∙ ap (λ z. pair 0 z) high in
      let none : 1 ≡ 0 = is_dead 1 (at ∙ ap Some dead) in
      absurd (omega (arith, none)))
      (λ le. omega (arith, le, some))
      (cases_lt 1 (length pairs))

  pub is_whole : IsWhole c
  is_whole = record {
    rows_long = λ s lt.
        ap length (row_at ranges firsts s (omega (arith, lt, rows_long ranges firsts)))
        ∙ targets_long (drop (slice_index_or firsts s 0) ranges) 0 256;
    targets = λ s byte lt small.
        let here : s < length pairs = omega (arith, lt, each) in
        let within = slice_get_within pairs (target c s byte) _ (step s byte (slice_index_or pairs s dead_pair) (pair_at s here) small) in
        omega (arith, within, each);
    each_record = omega (arith, each, are.each_record);
    start_there = let within = slice_get_within pairs start (start_pair a b) begins in omega (arith, within, each);
    few = omega (arith, each, are.few.1);
    stays_dead = λ byte small. is_dead (target c 0 byte) (step 0 byte dead_pair are.few.0.dead small
        ∙ ap Some (dead_next a b one other byte small));
    begins = ⊎_elim
        (λ lt. let e : start ≡ 0 = omega (arith, lt) in inr (e, each ∙ alone e))
        (λ le. inl (omega (arith, le, first)))
        (cases_lt start 1);
  }

  pub is_product : IsProduct a b c
  is_product = record {
    pairs = pairs;
    are_pairs = are.few.0;
    each_row = each;
    whole = is_whole;
    starts = begins;
    steps = step;
    records = λ s p r q at. are.recorded s p r q (slice_get_within pairs s p at) at;
  }
