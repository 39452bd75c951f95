-- The states of a visit are states, and after the last visit the walk is at an end.
use Rattle.std.proofs.Common.{◌∙◌, ◌<◌, length, sym, arith}
use Rattle.automaton_search.specs.inner.Walks.{states_of}
use Rattle.automaton_search.specs.laws.Lists.{past_last}
use Rattle.automaton_search.proofs.ThreeStates.{states, there}
use Rattle.automaton_search.proofs.WalkLaws.{at_end}
use Rattle.automaton_search.proofs.walk.walk_all.Goals as goal

pub returns-in_default-clause-walk : goal.returns-in_default-clause-walk
returns-in_default-clause-walk c =
    at_end _ _ (states_of c.loop-index.walk) c.loop-index.walk.trails.items c.loop-index.index
    (past_last (states 0 0 0) (states_of c.loop-index.walk) c.loop-index.index (sym c.get.ensures ∙ c.in_default.is))
    c.loop-index.invariant.walk

states_there : (c : goal.After-walk-in-loop-index-2-1) → (c.in-Some.states.first < length c.args.first.now.rows)
    × (c.in-Some.states.second < length c.args.second.now.rows) × (c.in-Some.states.third < length c.args.third.now.rows)
states_there c =
    there c.args.first.now c.args.second.now c.args.third.now (states_of c.loop-index.walk) c.loop-index.walk.trails.items
    c.loop-index.index 0
    c.loop-index.invariant.walk c.states.ensures.whole c.states-2.ensures.whole c.states-3.ensures.whole
    c.loop-index.index c.in-Some.states
    (sym c.get.ensures ∙ c.in-Some.is)

pub reach_all-requires-clause-first : goal.reach_all-requires-clause-first
reach_all-requires-clause-first c = (states_there c).0

pub reach_all-requires-clause-second : goal.reach_all-requires-clause-second
reach_all-requires-clause-second c = (states_there c).1

pub reach_all-requires-clause-third : goal.reach_all-requires-clause-third
reach_all-requires-clause-third c = (states_there c).2

pub returns-clause-walk : goal.returns-clause-walk
returns-clause-walk c =
    at_end _ _ (states_of c.loop-index.walk) c.loop-index.walk.trails.items c.loop-index.index
    (omega (arith, c.loop-index.invariant.few, c.loop-index-test.false)) c.loop-index.invariant.walk

pub returns-in_default-clause-there : goal.returns-in_default-clause-there
returns-in_default-clause-there c i s at =
    there c.args.first.now c.args.second.now c.args.third.now (states_of c.loop-index.walk) c.loop-index.walk.trails.items
    c.loop-index.index 0
    c.loop-index.invariant.walk c.states.ensures.whole c.states-2.ensures.whole c.states-3.ensures.whole i s at

pub returns-clause-there : goal.returns-clause-there
returns-clause-there c i s at =
    there c.args.first.now c.args.second.now c.args.third.now (states_of c.loop-index.walk) c.loop-index.walk.trails.items
    c.loop-index.index 0
    c.loop-index.invariant.walk c.states.ensures.whole c.states-2.ensures.whole c.states-3.ensures.whole i s at
