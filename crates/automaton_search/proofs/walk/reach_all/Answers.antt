-- From one stretch to the other, and from that to the next visit.
use Rattle.automaton_search.specs.Visits.{next_states, start_states}
use Rattle.automaton_search.specs.inner.Walks.{states_of}
use Rattle.automaton_search.proofs.WalkSteps.{below_a, next_visit}
use Rattle.automaton_search.proofs.walk.reach_all.Goals as goal

pub reach_stretch-requires-2-clause-walk : goal.reach_stretch-requires-2-clause-walk
reach_stretch-requires-2-clause-walk c =
    below_a (next_states c.args.first.now c.args.second.now c.args.third.now)
    (start_states c.args.first.now c.args.second.now c.args.third.now)
    (states_of c.reach_stretch.new.walk) c.reach_stretch.new.walk.trails.items c.args.index c.in_ok-reach_stretch.ensures.walk

pub returns-clause-walk : goal.returns-clause-walk
returns-clause-walk c =
    next_visit (next_states c.args.first.now c.args.second.now c.args.third.now)
    (start_states c.args.first.now c.args.second.now c.args.third.now)
    (states_of c.reach_stretch-2.new.walk) c.reach_stretch-2.new.walk.trails.items c.args.index c.in_ok-reach_stretch-2.ensures.walk
