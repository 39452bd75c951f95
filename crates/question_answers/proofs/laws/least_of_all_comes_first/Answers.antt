-- Each name that is found has a key, so that the first name of the list is at most it.
use Rattle.question_answers.specs.Alone.{IsDifference, IsDifferenceBy}
use Rattle.question_answers.specs.Findings.{IsWanted, IsWantedBy}
use Rattle.question_answers.specs.declared.quantifier.Quantifier.TheVariants.{Any}
use Rattle.question_answers.specs.declared.quantifier.Witnesses.TheVariants.{EachRule}
use Rattle.question_answers.proofs.KeyedNames.{some_pair, some_rule}
use Rattle.question_answers.proofs.LeastLists.{first_is_least}
use Rattle.question_answers.proofs.laws.least_of_all_comes_first.Goals as goal

pub returns-clause-any : goal.returns-clause-any
returns-clause-any c rules path ask p names asked are =
    first_is_least c.names_are_in_one_order.ensures.irreflexive c.names_are_in_one_order.ensures.transitive
    (IsWantedBy rules path ask) (IsWanted (Any EachRule) rules path ask)
    (some_rule c.reasons_are_right.ensures.some rules path ask p asked) (λ n name is. is.0) names are

pub returns-clause-alone : goal.returns-clause-alone
returns-clause-alone c below old new p side names are =
    first_is_least c.names_are_in_one_order.ensures.irreflexive c.names_are_in_one_order.ensures.transitive
    (IsDifferenceBy below old new p side) (IsDifference below old new p side)
    (some_pair c.reasons_are_right.ensures.some below old new p side) (λ r name is. is.0) names are
