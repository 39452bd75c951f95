-- A walk at its end has all visits.
use Rattle.std.proofs.Common.{◌≡◌, ℕ, ◌<◌, ◌≤◌, true, List, [], ◌∷◌, length, Some, slice_get, slice_index_or, sym, ap, ◌∙◌, subst, arith}
use Rattle.std.proofs.lemmas.Option.{slice_get-get_or}
use Rattle.automaton_rows.specs.Automata.{Automaton}
use Rattle.automaton_search.specs.declared.states.States.{States}
use Rattle.automaton_search.specs.declared.walk.Trail.{Trail}
use Rattle.automaton_search.specs.contracts.states.StatesPartialEq.TheImpl as states_impl
use Rattle.automaton_search.specs.declared.fault.SearchFault.TheVariants.{TooManyStates}
use Rattle.automaton_search.specs.Visits.{AreAllVisits, AreDistinct, AreStatesOf, IsSearchFault, VisitsValue, most_visits}
use Rattle.automaton_search.specs.Visits.{next_states, start_states}
use Rattle.automaton_search.specs.inner.Trails.{GoBack, names_from}
use Rattle.automaton_search.specs.inner.Walks.{IsAt, IsWalk, IsWalkAt}
use Rattle.automaton_search.specs.laws.Lists.{no_more}
use Rattle.automaton_search.proofs.ThreeStates.{led_all, states}
use Rattle.automaton_search.proofs.TrailNames.{are_named, goes_back, same_names}
use Rattle.automaton_search.proofs.WalkLaws.{all_met}

module _ (a b c : Automaton) (all : List States) (trails : List Trail) (some : 0 < length all)
    (walk : IsWalkAt (next_states a b c) (start_states a b c) all trails (length all) 0) where
  pub back : GoBack trails
  back = (walk.1.slash, λ j t lt at. goes_back trails walk.0 walk.1.named j t lt at)

  -- by the computed names
  named : IsWalk (next_states a b c) (start_states a b c) all trails (names_from [] trails) (length all) 0
  named = subst (λ (names : List (List ℕ)). IsWalk (next_states a b c) (start_states a b c) all trails names (length all) 0)
      (same_names trails walk.0 (names_from [] trails) walk.1.named
      (are_named trails (omega (arith, some, walk.1.each)) back)) walk.1

  first : IsAt all (names_from [] trails) 0 (next_states a b c (start_states a b c) 47) (47 ∷ [])
  first =
      let s : States = slice_index_or all 0 (states 0 0 0) in
      let at : slice_get all 0 ≡ Some s = slice_get-get_or all 0 (states 0 0 0) some in
      (at ∙ ap Some (sym (named.leads 0 s (47 ∷ []) (at, named.named.first)).1), named.named.first)

  pub all_visits : ((i : ℕ) (s : States) → slice_get all i ≡ Some s → AreStatesOf a b c s) → AreDistinct all →
      AreAllVisits a b c (record { states = all; names = names_from [] trails })
  all_visits there distinct = record {
    each = named.named.each ∙ sym named.each;
    named = λ i s name at. let h = named.leads i s name at in (h.0, sym h.1 ∙ led_all a b c (start_states a b c) name);
    there = there;
    distinct = distinct;
    ascending = λ i j name other lt at other_at. named.ascending i j name other lt at other_at;
    complete = λ name is.
        let h = all_met (next_states a b c) (start_states a b c) all trails (names_from [] trails) (length all) named first
        (omega arith) name is in
        (h.0, h.1.0, (h.1.1.0 ∙ ap Some (led_all a b c (start_states a b c) name), h.1.1.1), h.1.2);
  }

-- what is visited is no more than all visits
pub not_more : (a b c : Automaton) (all : VisitsValue) → AreAllVisits a b c all → length all.states ≤ most_visits →
    ((s t : States) → states_impl.eq-value.it s t ≡ true → s ≡ t) → ((s : States) → states_impl.eq-value.it s s ≡ true) →
    ¬ (IsSearchFault a b c TooManyStates)
not_more a b c all are few same itself fault =
    let near = no_more states_impl.eq-value.it same itself fault.0 all.states fault.1.distinct (λ i s at.
    let name = fault.1.reached i s at in
    let visit = are.complete name.0 name.1 in
    (visit.0, visit.2.0 ∙ ap Some (sym name.2))) in
    omega (arith, near, few, fault.2)
