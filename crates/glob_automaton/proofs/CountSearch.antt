-- Rules have more sets than a number, or they don't: the different ones are found one by one.
use Rattle.std.proofs.Common.{◌≢◌, ℕ, ◌+◌, ◌<◌, ◌≤◌, Bool, IsTrue, ◌↔◌, ◌⊎◌, inl, inr, ⊎_elim, List, [], length, slice_index_or, subst}
use Rattle.std.proofs.Common.{arith}
use Rattle.std.proofs.lemmas.Bool.{cases_lt}
use Rattle.std.proofs.lemmas.List.Elements.{All-nil}
use Rattle.rule_profile.specs.Profile.{RuleValue}
use Rattle.automaton_rows.specs.Automata.{most_sets}
use Rattle.glob_automaton.specs.Automata.{StateLimit}
use Rattle.glob_automaton.specs.Sets.{SameSet, NoneLive, IsPrefixOfName, AreDifferent, AreMoreThan}
use Rattle.glob_automaton.proofs.CountedPrefixes.{AreAll, all_counted}
use Rattle.glob_automaton.proofs.SetCounts.{few_values}
use Rattle.glob_automaton.proofs.Decisions.{Decided, told, told_right}
use Rattle.glob_automaton.proofs.LiveByParts.{LeftFirst}
use Rattle.glob_automaton.proofs.LiveNumbers.{LiveAfterByte}
use Rattle.glob_automaton.proofs.LiveTests.{TakesByCuts}
use Rattle.glob_automaton.proofs.NewSets.{IsMet, IsUnmet, IsCounted, AreFound, met_or_not, search_on}
use Rattle.glob_automaton.proofs.SetsGoOn.{same_back, same_through}

-- the index at which a set is met, or 0
index_of : (rules : List RuleValue) (prefixes : List (List ℕ)) (x : List ℕ) → IsMet rules prefixes x ⊎ IsUnmet rules prefixes x → ℕ
index_of rules prefixes x (inl met) = met.0
index_of rules prefixes x (inr unmet) = 0

index_right : (rules : List RuleValue) (prefixes : List (List ℕ)) (x : List ℕ) (s : IsMet rules prefixes x ⊎ IsUnmet rules prefixes x) →
    IsCounted rules prefixes x → ¬ (NoneLive rules x) →
    (index_of rules prefixes x s < length prefixes) × SameSet rules x (slice_index_or prefixes (index_of rules prefixes x s) [])
unfolding index_of
index_right rules prefixes x (inl met) counted live = (met.1, met.2)
index_right rules prefixes x (inr unmet) counted live = absurd (⊎_elim live (λ t. unmet t.0 t.1 t.2) counted)

-- the index in the one list of the set of a prefix in the other
place_of : TakesByCuts → LeftFirst → (rules : List RuleValue) (all prefixes : List (List ℕ)) → ℕ → ℕ
place_of by_cuts by_steps rules all prefixes i =
    index_of rules all (slice_index_or prefixes i []) (met_or_not by_cuts by_steps rules all (slice_index_or prefixes i []))

module _ (by_cuts : TakesByCuts) (by_steps : LeftFirst) (rules : List RuleValue) (all prefixes : List (List ℕ))
    (each : AreAll rules all) (h : AreDifferent rules prefixes) where
  place_right : (i : ℕ) → i < length prefixes → (place_of by_cuts by_steps rules all prefixes i < length all)
      × SameSet rules (slice_index_or prefixes i []) (slice_index_or all (place_of by_cuts by_steps rules all prefixes i) [])
  unfolding place_of
  place_right i lt = index_right rules all (slice_index_or prefixes i [])
      (met_or_not by_cuts by_steps rules all (slice_index_or prefixes i []))
      (each (slice_index_or prefixes i []) (h.prefixes_of_names i [] lt)) (h.some_live i [] lt)

  places_differ : (i j : ℕ) → i < j → j < length prefixes →
      place_of by_cuts by_steps rules all prefixes i ≢ place_of by_cuts by_steps rules all prefixes j
  places_differ i j lt within e =
      let x : List ℕ = slice_index_or prefixes i [] in
      let y : List ℕ = slice_index_or prefixes j [] in
      let shared : ℕ = place_of by_cuts by_steps rules all prefixes j in
      let one : SameSet rules x (slice_index_or all shared []) =
      subst (λ z. SameSet rules x (slice_index_or all z [])) e (place_right i (omega (arith, lt, within))).1 in
      h.different i j lt within
      (same_through rules x (slice_index_or all shared []) y one (same_back rules y (slice_index_or all shared [])
      (place_right j within).1))

  -- where each prefix of a name is counted, no more are different
  few_different : length prefixes ≤ length all
  few_different =
      few_values (place_of by_cuts by_steps rules all prefixes) (length prefixes) (length all) places_differ (λ i lt. (place_right i lt).0)

none_found : (rules : List RuleValue) → AreFound rules []
none_found rules = record {
  different = record {
    prefixes_of_names = All-nil IsPrefixOfName;
    some_live = All-nil (λ bytes. ¬ (NoneLive rules bytes));
    different = λ i j lt within. absurd (omega (arith, within));
  };
  some_bytes = All-nil (λ z. 0 < length z);
}

-- there are more than n, or not
decided_more : TakesByCuts → LiveAfterByte → LeftFirst → (n : ℕ) (rules : List RuleValue) → Decided (AreMoreThan n rules)
decided_more by_cuts after by_steps n rules = ⊎_elim
    (λ t. inl (t.0, t.1.different, omega (arith, t.2)))
    (λ t.
    let w = all_counted after by_steps rules t.0 t.2 by_cuts t.1.different in
    ⊎_elim
    (λ lt. inl (w.0, w.1, lt))
    (λ le. inr (λ h. omega (arith, h.2, le, few_different by_cuts by_steps rules w.0 h.0 w.2 h.1)))
    (cases_lt n (length w.0 + 1)))
    (search_on by_cuts by_steps rules n [] (none_found rules))

-- the test at one number
is_more : TakesByCuts → LiveAfterByte → LeftFirst → ℕ → List RuleValue → Bool
is_more by_cuts after by_steps n rules = told (AreMoreThan n rules) (decided_more by_cuts after by_steps n rules)

is_more_right : (by_cuts : TakesByCuts) (after : LiveAfterByte) (by_steps : LeftFirst) (n : ℕ) (rules : List RuleValue) →
    IsTrue (is_more by_cuts after by_steps n rules) ↔ AreMoreThan n rules
unfolding is_more
is_more_right by_cuts after by_steps n rules = told_right (AreMoreThan n rules) (decided_more by_cuts after by_steps n rules)

pub most_states : TakesByCuts → LiveAfterByte → LeftFirst → StateLimit
most_states by_cuts after by_steps = record {
  is_over = is_more by_cuts after by_steps most_sets;
  right = is_more_right by_cuts after by_steps most_sets;
}
