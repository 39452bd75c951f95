use Rattle.glob_automaton.proofs.CountSearch.{most_states}
use Rattle.glob_automaton.proofs.laws.too_many_states_can_be_told.Goals as goal

pub returns : goal.returns
returns c = most_states c.takes_by_cuts.ensures c.live_places_go_on.ensures.step c.live_is_left_first.ensures
