-- The states of a product, one more after another.
use Rattle.std.proofs.Common.{◌≡◌, ⊎_elim, ℕ, ◌+◌, ◌<◌, ◌≤◌, List, [], ◌∷◌, ◌++◌, length, drop, Some, slice_get}
use Rattle.std.proofs.Common.{slice_index_or, refl, sym, ap, ◌∙◌, subst, arith}
use Rattle.std.proofs.Math.Seq.{get_or-append_seam, drop-append_seam}
use Rattle.std.proofs.lemmas.Bool.{cases_lt}
use Rattle.std.proofs.lemmas.List.{length-append, length-drop, get_or_append_left, drop-append-le}
use Rattle.std.proofs.lemmas.Option.{same_Some, slice_get_within, slice_get-get_or}
use Rattle.names.specs.declared.record.Record.{Record}
use Rattle.automaton_rows.specs.Automata.{Automaton}
use Rattle.automaton_rows.specs.declared.range.TargetRange.{TargetRange}
use Rattle.automaton_rows.specs.Rows.{target_in, IsRowFrom}
use Rattle.automaton_rows.specs.laws.RowLaws.{row_stays, target_stays, row_some}
use Rattle.automaton_products.specs.declared.pairs.Pair.{Pair}
use Rattle.automaton_products.specs.Products.{next_pair, AreFewPairs, Keeps, joined}
use Rattle.automaton_products.specs.ProductStates.{IsJoinedRow, AreStates}
use Rattle.automaton_products.specs.laws.PairNumbers.{get_stays, get_last}
use Rattle.automaton_products.specs.laws.PairLaws.{kept_at}

-- a row begins within the ranges
row_begins : (ranges : List TargetRange) (first : ℕ) → IsRowFrom 0 (drop first ranges) → first ≤ length ranges
row_begins ranges first h = let some = row_some (drop first ranges) 0 h in omega (arith, some, length-drop first ranges)

module _ (a b : Automaton) where
  -- a row stays the same when pairs are added, and other rows after it
  joined_stays : (old new : List Pair) (p : Pair) (row more : List TargetRange) → Keeps old new → IsJoinedRow a b old p row →
      IsJoinedRow a b new p (row ++ more)
  joined_stays old new p row more kept is = record {
    is_row = row_stays row more 0 is.is_row;
    targets = λ c small.
        ap (slice_get new) (target_stays row more 0 c is.is_row small)
        ∙ kept_at old new (target_in row c) (next_pair a b p c) kept (is.targets c small);
  }

  kept_long : (old new : List Pair) → Keeps old new → length old ≤ length new
  kept_long old new kept = omega (arith, ap length kept.1, length-append old kept.0)

  pub no_states : (pairs : List Pair) → AreFewPairs a b pairs → AreStates a b pairs [] [] [] 0
  no_states pairs few = record {
    few = few;
    within = omega arith;
    each_row = refl;
    each_record = refl;
    row = λ s p lt. absurd (omega (arith, lt));
    recorded = λ s p r q lt. absurd (omega (arith, lt));
  }

  -- a pair of the old ones is still that of its number
  same_pair : (old new : List Pair) (s : ℕ) (p : Pair) → Keeps old new → s < length old → slice_get new s ≡ Some p →
      slice_get old s ≡ Some p
  same_pair old new s p kept lt at =
      let is = slice_get-get_or old s p lt in
      is ∙ ap Some (same_Some (slice_index_or old s p) p (sym (kept_at old new s (slice_index_or old s p) kept is) ∙ at))

  pub one_state_more : (old new : List Pair) (ranges row : List TargetRange) (firsts : List ℕ) (records : List Record) (state : ℕ)
      (p : Pair) (r q : Record) →
      AreStates a b old ranges firsts records state → slice_get old state ≡ Some p → AreFewPairs a b new → Keeps old new →
      IsJoinedRow a b new p row →
      slice_get a.records p.one ≡ Some r → slice_get b.records p.other ≡ Some q →
      AreStates a b new (ranges ++ row) (firsts ++ length ranges ∷ []) (records ++ joined r q ∷ []) (state + 1)
  one_state_more old new ranges row firsts records state p r q are at few kept its_row first second = record {
    few = few;
    within = let lt = slice_get_within old state p at in omega (arith, lt, kept_long old new kept);
    each_row = omega (arith, are.each_row, length-append firsts (length ranges ∷ []));
    each_record = omega (arith, are.each_record, length-append records (joined r q ∷ []));
    row = λ s z below here. ⊎_elim
        (λ lt.
        let is = are.row s z lt (same_pair old new s z kept (omega (arith, lt, are.within)) here) in
        let begin : ℕ = slice_index_or firsts s 0 in
        subst (IsJoinedRow a b new z)
        (sym (ap (λ f. drop f (ranges ++ row)) (get_or_append_left firsts (length ranges ∷ []) 0 s (omega (arith, lt, are.each_row)))
        ∙ drop-append-le begin ranges row (row_begins ranges begin is.is_row)))
        (joined_stays old new z (drop begin ranges) row kept is))
        (λ le.
        let now : s ≡ state = omega (arith, le, below) in
        let its : p ≡ z = same_Some p z (sym (kept_at old new state p kept at) ∙ ap (slice_get new) (sym now) ∙ here) in
        subst (λ f. IsJoinedRow a b new z (drop f (ranges ++ row)))
        (sym (ap (λ i. slice_index_or (firsts ++ length ranges ∷ []) i 0) (now ∙ sym are.each_row) ∙ get_or-append_seam firsts
        (length ranges) [] 0))
        (subst (IsJoinedRow a b new z) (sym (drop-append_seam ranges row)) (subst (λ (x : Pair). IsJoinedRow a b new x row) its its_row)))
        (cases_lt s state);
    recorded = λ s z x y below here one two. ⊎_elim
        (λ lt. get_stays records (joined r q ∷ []) s (joined x y)
        (are.recorded s z x y lt (same_pair old new s z kept (omega (arith, lt, are.within)) here) one two))
        (λ le.
        let now : s ≡ state = omega (arith, le, below) in
        let its : p ≡ z = same_Some p z (sym (kept_at old new state p kept at) ∙ ap (slice_get new) (sym now) ∙ here) in
        let its_r : r ≡ x = same_Some r x (sym first ∙ ap (λ (w : Pair). slice_get a.records w.one) its ∙ one) in
        let its_q : q ≡ y = same_Some q y (sym second ∙ ap (λ (w : Pair). slice_get b.records w.other) its ∙ two) in
        ap (slice_get (records ++ joined r q ∷ [])) (now ∙ sym are.each_record) ∙ get_last records (joined r q)
        ∙ ap (λ w. Some (joined w q)) its_r ∙ ap (λ w. Some (joined x w)) its_q)
        (cases_lt s state);
  }
