-- The states are found among those that were visited, or they are new.
use Rattle.std.proofs.Common.{◌∙◌, inl, sym, ap, refl, arith, Some, get_or}
use Rattle.std.proofs.lemmas.List.Quantifiers.{position-Some}
use Rattle.std.proofs.lemmas.Option.{slice_get-get_or}
use Rattle.automaton_search.specs.contracts.states.StatesPartialEq.TheImpl as states_impl
use Rattle.automaton_search.specs.declared.states.States.{States}
use Rattle.automaton_search.specs.laws.Lists.{all_distinct, not_there}
use Rattle.automaton_search.proofs.walk.Walk.reach.Goals as goal

pub returns-in-Some-clause-visited : goal.returns-in-Some-clause-visited
returns-in-Some-clause-visited c =
    let keys = c.args.self.now.states.keys in
    let s : States = c.args.states in
    let k = c.in-Some._index in
    let is = position-Some (states_impl.eq-value.it s) keys k s (sym c.get_index_of.ensures.index ∙ c.in-Some.is) in
    inl ((k, slice_get-get_or keys k s is.0 ∙ ap Some (sym (c.equal_states_are_one.ensures.one s (get_or keys k s) is.1))), refl, refl)

pub returns-then-count-eq-MOST_VISITS-clause-err : goal.returns-then-count-eq-MOST_VISITS-clause-err
returns-then-count-eq-MOST_VISITS-clause-err c = (
  omega (arith, c.if-count-eq-MOST_VISITS.true, c.len-count.ensures.len),
  all_distinct states_impl.eq-value.it c.equal_states_are_one.ensures.one c.equal_states_are_one.ensures.itself
      c.args.self.now.states.keys c.len-count.ensures.unique,
  not_there states_impl.eq-value.it c.equal_states_are_one.ensures.one c.equal_states_are_one.ensures.itself
      c.args.self.now.states.keys c.args.states (sym c.in_default.ensures.found),
)

pub returns-in-Some-clause-distinct : goal.returns-in-Some-clause-distinct
returns-in-Some-clause-distinct c =
    all_distinct states_impl.eq-value.it c.equal_states_are_one.ensures.one c.equal_states_are_one.ensures.itself
    c.args.self.now.states.keys c.len-count.ensures.unique

pub returns-in-Ok-clause-distinct : goal.returns-in-Ok-clause-distinct
returns-in-Ok-clause-distinct c =
    all_distinct states_impl.eq-value.it c.equal_states_are_one.ensures.one c.equal_states_are_one.ensures.itself
    c.insert_full.new.self.keys c.insert_full.ensures.unique
