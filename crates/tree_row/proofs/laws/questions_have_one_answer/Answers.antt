use Rattle.tree_row.proofs.SeenSlots.{one_child}
use Rattle.tree_row.proofs.laws.questions_have_one_answer.Goals as goal

pub returns-clause-child : goal.returns-clause-child
returns-clause-child g c = λ cells row w capacity directory one other component may encodes tells also.
    one_child capacity row w encodes directory one other component (tells.1 row w may encodes) (also.1 row w may encodes)

pub returns-clause-no_child : goal.returns-clause-no_child
returns-clause-no_child g c = λ cells row w capacity directory s component may encodes tells none.
    none row w may encodes s (tells.1 row w may encodes)
