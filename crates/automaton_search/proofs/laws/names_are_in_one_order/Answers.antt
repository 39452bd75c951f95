use Rattle.automaton_search.specs.laws.Orders.{less_or_same, less_through, never_less}
use Rattle.automaton_search.proofs.laws.names_are_in_one_order.Goals as goal

pub returns-clause-some : goal.returns-clause-some
returns-clause-some c u v = less_or_same u v

pub returns-clause-irreflexive : goal.returns-clause-irreflexive
returns-clause-irreflexive c u less = never_less u less

pub returns-clause-transitive : goal.returns-clause-transitive
returns-clause-transitive c u v w one other = less_through u v w one other
