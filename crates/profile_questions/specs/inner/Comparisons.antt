-- What a comparison keeps.
use Rattle.automaton_search.specs.Visits.{AreAllVisits, VisitsValue}
use Rattle.glob_automaton.specs.Automata.{IsAutomatonOf}
use Rattle.profile_questions.specs.Names.{ComparisonValue, CompiledValue}

abbrev pub compared : CompiledValue → CompiledValue → CompiledValue → VisitsValue → ComparisonValue
compared one two three all = record { first = one.rules; second = two.rules; third = three.rules; names = all.names }

pub record IsComparison (one two three : CompiledValue) (all : VisitsValue) : Type 0 where
  pub first : IsAutomatonOf one.rules one.automaton
  pub second : IsAutomatonOf two.rules two.automaton
  pub third : IsAutomatonOf three.rules three.automaton
  pub visits : AreAllVisits one.automaton two.automaton three.automaton all
