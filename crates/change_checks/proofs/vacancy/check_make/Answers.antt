use Rattle.std.proofs.Common.{◌∙◌}
use Rattle.directory_tree.specs.Apply.{make, has_room}
use Rattle.change_checks.specs.Act.{kind_of_new}
use Rattle.change_checks.proofs.Faults.{fault_passed}
use Rattle.change_checks.proofs.vacancy.check_make.Goals as goal

pub returns-in_err-place-clause-fault : goal.returns-in_err-place-clause-fault
returns-in_err-place-clause-fault g c =
    fault_passed c.from_residual.result c.in_err-place.field-0.0 _ _ _ _ c.from_residual.ensures.1 (λ w e seen h. h)
    (c.in_err-place.ensures.fault (λ w. make w.tree (has_room (g.L.ChangeLook.capacity c.find_place.new.look) w.tree)
    (kind_of_new c.args.node.now)))

pub returns-in_err-check_vacant-clause-fault : goal.returns-in_err-check_vacant-clause-fault
returns-in_err-check_vacant-clause-fault g c =
    let look = c.check_vacant.new.look in
    fault_passed c.from_residual-in_err-check_vacant.result c.in_err-check_vacant.field-0.0 _ _ _ _
    c.from_residual-in_err-check_vacant.ensures.1
    (λ w e seen h. c.in_ok-place.ensures.acts w (c.in_err-check_vacant.ensures.narrows w seen)
    (make w.tree (has_room (g.L.ChangeLook.capacity look) w.tree) (kind_of_new c.args.node.now)) ∙ h)
    (c.in_err-check_vacant.ensures.fault_of_make (λ w. kind_of_new c.args.node.now))
