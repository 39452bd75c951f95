use Rattle.glob_automaton.proofs.WholeParts.{whole_part}
use Rattle.glob_automaton.proofs.parts.whole_parts_are_automata.Goals as goal

pub returns : goal.returns
returns c = λ rules a slashes is. whole_part c.live_places_go_on.ensures.step c.live_is_left_first.ensures rules slashes a is
