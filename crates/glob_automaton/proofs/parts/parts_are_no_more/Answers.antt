use Rattle.glob_automaton.proofs.WholeParts.{no_more_sets, too_many}
use Rattle.glob_automaton.proofs.parts.parts_are_no_more.Goals as goal

pub returns-clause-sets : goal.returns-clause-sets
returns-clause-sets c = λ rules first last n h. no_more_sets rules first last n h

pub returns-clause-products : goal.returns-clause-products
returns-clause-products c = λ rules first middle last a b fault slashes low high one other h. too_many c.live_places_go_on.ensures.step
    c.live_is_left_first.ensures rules slashes first middle last a b fault low high one other h
