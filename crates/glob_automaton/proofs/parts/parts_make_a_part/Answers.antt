use Rattle.glob_automaton.proofs.SideBySide.{product_of_parts}
use Rattle.glob_automaton.proofs.parts.parts_make_a_part.Goals as goal

pub returns : goal.returns
returns c = λ rules first middle last a b p low high one other is. product_of_parts c.records_are_their_hits.ensures.made
    c.records_are_their_hits.ensures.same rules first middle last low high a b p one other is
