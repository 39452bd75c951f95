use Rattle.tree_row.proofs.laws.wrong_answers_are_refused.Goals as goal

pub returns-clause-another_component : goal.returns-clause-another_component
returns-clause-another_component g c = λ cells row w capacity directory s component may encodes differs tells. differs
    (tells.1 row w may encodes).named

pub returns-clause-another_directory : goal.returns-clause-another_directory
returns-clause-another_directory g c = λ cells row w capacity directory s component may encodes differs tells. differs
    (tells.1 row w may encodes).under

pub returns-clause-free_slot_is_found : goal.returns-clause-free_slot_is_found
returns-clause-free_slot_is_found g c = λ cells row w capacity directory s component may encodes free tells.
    (tells.1 row w may encodes).used.used free
