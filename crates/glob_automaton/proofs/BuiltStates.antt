-- The states that are built so far: one for each set, in the order of the sets.
use Rattle.std.proofs.Common.{◌≡◌, ◌⊎◌, inl, inr, ⊎_elim, ℕ, ◌+◌, ◌<◌, ◌≤◌, ◌↔◌, Bool, IsTrue, false, true≢false, List, [], ◌∷◌, ◌++◌}
use Rattle.std.proofs.Common.{length, drop, slice_index_or, refl, sym, ap, ◌∙◌, subst, subst₂, arith}
use Rattle.std.proofs.Math.Seq.{get_or-append_seam, drop-append_seam}
use Rattle.std.proofs.lemmas.List.{length-append, length-drop, get_or_append_left, drop-append-le}
use Rattle.std.proofs.lemmas.Bool.{cases_lt}
use Rattle.glob_automaton.specs.declared.chart.Chart.{Chart}
use Rattle.names.specs.declared.record.Record.{Record}
use Rattle.glob_automaton.specs.inner.ChartStates.{IsStartOf, IsStepOf, begins, IsRecordOf, IsBuilt}
use Rattle.automaton_rows.specs.Automata.{IsWhole}
use Rattle.automaton_rows.specs.declared.range.TargetRange.{TargetRange}
use Rattle.automaton_rows.specs.Rows.{AreRows, IsRowFrom, rows_of, target_in}
use Rattle.automaton_rows.specs.laws.RowLaws.{row_stays, row_some, target_stays}
use Rattle.automaton_rows.specs.laws.RowLists.{row_at, rows_long, target_at, targets_long}
use Rattle.glob_automaton.specs.inner.States.{tables, AreStates, IsNumbered, AreFewSets, Keeps, IsTargetOf, IsRowOfSet}
use Rattle.glob_automaton.proofs.EmptySets.{all_empty}
use Rattle.glob_automaton.proofs.RuleNumbers.{neither_less}
use Rattle.glob_automaton.proofs.SetSteps.{numbered_sets, step_empty, still_target}

-- the empty set alone, which is one set
pub empty_set_alone : (chart : Chart) (old new : List (List ℕ)) (number : ℕ) → old ≡ [] → IsNumbered old new [] number →
    AreFewSets chart new × (length new ≡ 1)
empty_set_alone chart old new number none is = ⊎_elim
    (λ same. absurd (omega (arith, is.there, ap length same, ap length none)))
    (λ more. subst (λ z. AreFewSets chart z × (length z ≡ 1)) (sym (more.0 ∙ ap (λ z. z ++ [] ∷ []) none)) (alone, refl))
    is.grows
  where
    alone : AreFewSets chart ([] ∷ [])
    alone = (
      record {
        some = omega arith;
        empty = refl;
        different = λ i j lt within. absurd (omega (arith, lt, within));
        reached = λ i positive within. absurd (omega (arith, positive, within));
      },
      omega arith,
    )

-- no state yet, once the set that is live at first has its number
pub no_states : (chart : Chart) (old new : List (List ℕ)) (set : List ℕ) (start : ℕ) → AreFewSets chart old → length old ≡ 1 →
    IsStartOf chart set →
    IsNumbered old new set start → AreStates chart new [] [] [] start 0
no_states chart old new set start are one begun is =
    let w = numbered_sets chart old new set start are (inr ([], begins chart set begun)) is in
    record {
      sets_few = w.0;
      start_there = is.there;
      start_first = ⊎_elim
          (λ same. omega (arith, is.there, ap length same, one))
          (λ more. omega (arith, is.there, ap length more.0, length-append old (set ∷ []), one))
          is.grows;
      begun = subst (λ z. IsStartOf chart z) (sym is.at) begun;
      within = omega arith;
      each_row = refl;
      each_record = refl;
      row = λ s lt. absurd (omega (arith, lt));
      recorded = λ s none lt. absurd (omega (arith, lt));
    }

-- the sets that were there are what they were
kept_at : (old new : List (List ℕ)) (i : ℕ) → Keeps old new → i < length old → slice_index_or new i [] ≡ slice_index_or old i []
kept_at old new i kept lt = ap (λ z. slice_index_or z i []) kept.1 ∙ get_or_append_left old kept.0 [] i lt

kept_long : (old new : List (List ℕ)) → Keeps old new → length old ≤ length new
kept_long old new kept = omega (arith, ap length kept.1, length-append old kept.0)

-- a row stays the same when sets are added, and other rows after it
kept_row : (chart : Chart) (old new : List (List ℕ)) (set : List ℕ) (row more : List TargetRange) → Keeps old new →
    IsRowOfSet chart old set row →
    IsRowOfSet chart new set (row ++ more)
kept_row chart old new set row more kept is = record {
  is_row = row_stays row more 0 is.is_row;
  targets = λ b small.
      subst (λ t. IsTargetOf chart new set b t) (sym (target_stays row more 0 b is.is_row small))
      (still_target chart old new set b (target_in row b) kept (is.targets b small));
}

-- a row begins within the ranges
row_begins : (ranges : List TargetRange) (first : ℕ) → IsRowFrom 0 (drop first ranges) → first ≤ length ranges
row_begins ranges first h = let some = row_some (drop first ranges) 0 h in omega (arith, some, length-drop first ranges)

-- what is in a list with one more element
module _ {X : Type 0} (xs : List X) (x d : X) where
  earlier : (i : ℕ) → i < length xs → slice_index_or (xs ++ x ∷ []) i d ≡ slice_index_or xs i d
  earlier i lt = get_or_append_left xs (x ∷ []) d i lt

  newest : (i : ℕ) → i ≡ length xs → slice_index_or (xs ++ x ∷ []) i d ≡ x
  newest i at = ap (λ z. slice_index_or (xs ++ x ∷ []) z d) at ∙ get_or-append_seam xs x [] d

-- one more state
pub one_state_more : (chart : Chart) (sets new : List (List ℕ)) (ranges row : List TargetRange) (firsts : List ℕ) (records : List Record)
    (start state : ℕ)
    (set : List ℕ) (r : Record) → AreStates chart sets ranges firsts records start state → state < length sets →
    set ≡ slice_index_or sets state [] →
    AreFewSets chart new → Keeps sets new → IsRowOfSet chart new set row → IsRecordOf chart set r →
    AreStates chart new (ranges ++ row) (firsts ++ length ranges ∷ []) (records ++ r ∷ []) start (state + 1)
one_state_more chart sets new ranges row firsts records start state set r are lt is few kept its_row its_record = record {
  sets_few = few;
  start_there = omega (arith, are.start_there, kept_long sets new kept);
  start_first = are.start_first;
  begun = subst (λ z. IsStartOf chart z) (sym (kept_at sets new start kept are.start_there)) are.begun;
  within = omega (arith, lt, kept_long sets new kept);
  each_row = omega (arith, are.each_row, length-append firsts (length ranges ∷ []));
  each_record = omega (arith, are.each_record, length-append records (r ∷ []));
  row = λ s below. ⊎_elim
      (λ old.
      let begin : ℕ = slice_index_or firsts s 0 in
      let its = are.row s old in
      subst₂ (λ x y. IsRowOfSet chart new x y) (sym (there s old))
      (sym (ap (λ z. drop z (ranges ++ row)) (earlier firsts (length ranges) 0 s (omega (arith, old, are.each_row)))
      ∙ drop-append-le begin ranges row (row_begins ranges begin its.is_row)))
      (kept_row chart sets new (slice_index_or sets s []) (drop begin ranges) row kept its))
      (λ le. let at : s ≡ state = omega (arith, below, le) in
      subst₂ (λ x y. IsRowOfSet chart new x y) (its_set s at)
      (sym (ap (λ z. drop z (ranges ++ row)) (newest firsts (length ranges) 0 s (omega (arith, at, are.each_row)))
      ∙ drop-append_seam ranges row)) its_row)
      (cases_lt s state);
  recorded = λ s none below. ⊎_elim
      (λ old. subst₂ (λ x y. IsRecordOf chart x y) (sym (there s old))
      (sym (earlier records r none s (omega (arith, old, are.each_record))))
      (are.recorded s none old))
      (λ le. let at : s ≡ state = omega (arith, below, le) in
      subst₂ (λ x y. IsRecordOf chart x y) (its_set s at) (sym (newest records r none s (omega (arith, at, are.each_record)))) its_record)
      (cases_lt s state);
}
  where
    there : (s : ℕ) → s < state → slice_index_or new s [] ≡ slice_index_or sets s []
    there s old = kept_at sets new s kept (omega (arith, old, lt))

    its_set : (s : ℕ) → s ≡ state → set ≡ slice_index_or new s []
    its_set s at = is ∙ sym (kept_at sets new state kept lt) ∙ ap (λ z. slice_index_or new z []) (sym at)

-- all states, once there is one for each set
module _ (chart : Chart) (sets : List (List ℕ)) (ranges : List TargetRange) (firsts : List ℕ) (records : List Record) (start state : ℕ)
    (are : AreStates chart sets ranges firsts records start state) (all : length sets ≤ state) where
  abbrev pub rows : List (List ℕ)
  rows = rows_of ranges firsts

  count : state ≡ length sets
  count = omega (arith, all, are.within)

  target_of : (s b : ℕ) → s < length sets → b < 256 → IsTargetOf chart sets (slice_index_or sets s []) b
      (slice_index_or (slice_index_or rows s []) b 0)
  target_of s b lt small =
      subst (λ t. IsTargetOf chart sets (slice_index_or sets s []) b t)
      (sym (target_at ranges firsts s b (omega (arith, lt, count, are.each_row)) small))
      ((are.row s (omega (arith, lt, count))).targets b small)

  pub are_rows : AreRows ranges firsts
  are_rows s lt = (are.row s (omega (arith, lt, are.each_row))).is_row

  each : length rows ≡ length sets
  each = omega (arith, rows_long ranges firsts, are.each_row, count)

  some : 0 < length sets
  some = are.sets_few.0.some

  empty : slice_index_or sets 0 [] ≡ []
  empty = are.sets_few.0.empty

  -- what is dead stays dead
  stays : (b : ℕ) → b < 256 → slice_index_or (slice_index_or rows 0 []) b 0 ≡ 0
  stays b small =
      let t : ℕ = slice_index_or (slice_index_or rows 0 []) b 0 in
      let its : IsTargetOf chart sets (slice_index_or sets 0 []) b t = target_of 0 b some small in
      let step : IsStepOf chart [] b (slice_index_or sets t []) = subst (λ z. IsStepOf chart z b (slice_index_or sets t [])) empty its.1 in
      let same : slice_index_or sets t [] ≡ slice_index_or sets 0 [] = step_empty chart b (slice_index_or sets t []) step ∙ sym empty in
      neither_less t 0
      (λ lt. absurd (omega (arith, lt)))
      (λ lt. are.sets_few.0.different 0 t lt its.0 (sym same))

  -- where the start is dead, nothing else is
  dead_start : start ≡ 0 → length rows ≡ 1
  dead_start e =
      let none : slice_index_or sets start [] ≡ [] = ap (λ z. slice_index_or sets z []) e ∙ empty in
      let begun : IsStartOf chart [] = subst (λ z. IsStartOf chart z) none are.begun in
      ⊎_elim
      (λ lt.
      let more : 1 < length sets = omega (arith, lt, each) in
      let reached = are.sets_few.0.reached 1 (omega arith) more in
      absurd (are.sets_few.0.different 0 1 (omega arith) more
      (empty ∙ sym (all_empty chart begun reached.0 (slice_index_or sets 1 []) reached.1))))
      (λ le. omega (arith, le, some, each))
      (cases_lt 1 (length rows))

  start_is : (start ≡ 1) ⊎ ((start ≡ 0) × (length rows ≡ 1))
  start_is = ⊎_elim
      (λ lt. let e : start ≡ 0 = omega (arith, lt) in inr (e, dead_start e))
      (λ le. inl (omega (arith, le, are.start_first)))
      (cases_lt start 1)

  pub is_whole : IsWhole (tables ranges firsts records start)
  is_whole = record {
    rows_long = λ s lt.
        ap length (row_at ranges firsts s (omega (arith, lt, rows_long ranges firsts)))
        ∙ targets_long (drop (slice_index_or firsts s 0) ranges) 0 256;
    targets = λ s b lt small. omega (arith, (target_of s b (omega (arith, lt, each)) small).0, each);
    each_record = omega (arith, each, count, are.each_record);
    start_there = omega (arith, are.start_there, each);
    few = omega (arith, are.sets_few.1, each);
    stays_dead = stays;
    begins = start_is;
  }

  pub built_states : IsBuilt chart (tables ranges firsts records start)
  built_states = record {
    sets = sets;
    are_sets = are.sets_few.0;
    each_row = each;
    whole = is_whole;
    start_first = are.start_first;
    begins = are.begun;
    steps = λ s b lt small. (target_of s b lt small).1;
    records = λ s none lt. are.recorded s none (omega (arith, lt, count));
  }

-- where there is no set of a number, the sets are no more
pub no_more : (found : Bool) (i n : ℕ) → (IsTrue found ↔ (i < n)) → found ≡ false → n ≤ i
no_more found i n is none = ⊎_elim
    (λ lt. absurd (true≢false (sym (is.1 lt) ∙ none)))
    (λ le. le)
    (cases_lt i n)
