use Rattle.directory_tree.specs.Apply.{rename}
use Rattle.change_checks.proofs.Faults.{fault_passed}
use Rattle.change_checks.proofs.rename.check_rename.Goals as goal

pub returns-in_err-from-clause-fault : goal.returns-in_err-from-clause-fault
returns-in_err-from-clause-fault g c = fault_passed c.from_residual.result c.in_err-from.field-0.0 _ _ _ _ c.from_residual.ensures.1
    (λ w e seen h. h) (c.in_err-from.ensures.fault (λ w. rename w.tree))
