-- The walk has all visits.
use Rattle.automaton_search.specs.Visits.{AreAllVisits}
use Rattle.automaton_search.specs.inner.Trails.{visits_of}
use Rattle.automaton_search.specs.inner.Walks.{states_of}
use Rattle.automaton_search.proofs.VisitLaws.{all_visits, back, not_more}
use Rattle.automaton_search.proofs.visits.Visits.of.Goals as goal

all : (c : goal.In_ok-walk) → AreAllVisits c.args.first.now c.args.second.now c.args.third.now (visits_of c.in_ok-walk.walk)
all c =
    all_visits c.args.first.now c.args.second.now c.args.third.now (states_of c.in_ok-walk.walk)
    c.in_ok-walk.walk.trails.items c.in_ok-walk.ensures.some c.in_ok-walk.ensures.walk c.in_ok-walk.ensures.there
    c.in_ok-walk.ensures.distinct

pub invariant_of-result : goal.invariant_of-result
invariant_of-result c = (
  c.in_ok-walk.ensures.walk.1.each,
  back c.args.first.now c.args.second.now c.args.third.now (states_of c.in_ok-walk.walk)
      c.in_ok-walk.walk.trails.items c.in_ok-walk.ensures.some c.in_ok-walk.ensures.walk,
  c.in_ok-walk.ensures.few,
)

pub returns-clause-few : goal.returns-clause-few
returns-clause-few c =
    not_more c.args.first.now c.args.second.now c.args.third.now (visits_of c.in_ok-walk.walk) (all c) c.in_ok-walk.ensures.few
    c.equal_states_are_one.ensures.one c.equal_states_are_one.ensures.itself

pub returns-clause-ok : goal.returns-clause-ok
returns-clause-ok c = all c
