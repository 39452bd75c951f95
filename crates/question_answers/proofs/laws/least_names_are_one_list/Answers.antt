-- Both lists have the same names.
use Rattle.question_answers.specs.Alone.{IsDifferenceBy}
use Rattle.question_answers.specs.Findings.{IsWantedBy}
use Rattle.question_answers.proofs.LeastLists.{one_list}
use Rattle.question_answers.proofs.laws.least_names_are_one_list.Goals as goal

pub returns-clause-any : goal.returns-clause-any
returns-clause-any c rules path ask names others are also =
    one_list c.names_are_in_one_order.ensures.irreflexive c.names_are_in_one_order.ensures.transitive (IsWantedBy rules path ask)
    names others are also

pub returns-clause-alone : goal.returns-clause-alone
returns-clause-alone c below old new p side names others are also =
    one_list c.names_are_in_one_order.ensures.irreflexive c.names_are_in_one_order.ensures.transitive (IsDifferenceBy below old new p side)
    names others are also
