use Rattle.directory_tree.specs.Apply.{unlink}
use Rattle.change_checks.proofs.Faults.{fault_passed}
use Rattle.change_checks.proofs.removal.check_unlink.Goals as goal

pub returns-in_err-place-clause-fault : goal.returns-in_err-place-clause-fault
returns-in_err-place-clause-fault g c = fault_passed c.from_residual.result c.in_err-place.field-0.0 _ _ _ _ c.from_residual.ensures.1
    (λ w e seen h. h) (c.in_err-place.ensures.fault (λ w. unlink w.tree))
