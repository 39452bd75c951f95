use Rattle.std.proofs.Common.{◌∙◌}
use Rattle.directory_tree.specs.Apply.{link, has_room}
use Rattle.directory_tree.specs.Spots.{node_at}
use Rattle.change_checks.proofs.Faults.{fault_passed}
use Rattle.change_checks.proofs.Files.{entry_in, link_refused}
use Rattle.change_checks.proofs.vacancy.check_link.Goals as goal

pub returns-in_err-from-clause-fault : goal.returns-in_err-from-clause-fault
returns-in_err-from-clause-fault g c =
    fault_passed c.from_residual.result c.in_err-from.field-0.0 _ _ _ _ c.from_residual.ensures.1 (λ w e seen h. h)
    (c.in_err-from.ensures.fault (λ w. link w.tree (has_room (g.L.ChangeLook.capacity c.find_places.new.look) w.tree)))

pub returns-in_err-file-clause-fault : goal.returns-in_err-file-clause-fault
returns-in_err-file-clause-fault g c =
    let capacity = g.L.ChangeLook.capacity c.find_file.new.look in
    fault_passed c.from_residual-in_err-file.result c.in_err-file.field-0.0 _ _ _ _ c.from_residual-in_err-file.ensures.1
    (λ w e seen h. c.in_ok-from.ensures.acts w (c.in_err-file.ensures.narrows w seen) (link w.tree (has_room capacity w.tree)) ∙ h)
    (c.in_err-file.ensures.fault (λ w. has_room capacity w.tree) (λ w. node_at (g.L.Look.means c.in_ok-from.to.directory w))
    c.in_ok-from.to.component.now)

pub returns-in_err-check_vacant-clause-fault : goal.returns-in_err-check_vacant-clause-fault
returns-in_err-check_vacant-clause-fault g c =
    let look = g.L.Look in
    let capacity = g.L.ChangeLook.capacity c.check_vacant.new.look in
    let file = c.in_ok-file.file in
    let from = c.in_ok-from.from in
    let to = c.in_ok-from.to in
    fault_passed c.from_residual-in_err-check_vacant.result c.in_err-check_vacant.field-0.0 _ _ _ _
    c.from_residual-in_err-check_vacant.ensures.1 (λ w e seen h.
    let before = c.in_err-check_vacant.ensures.narrows w seen in
    c.in_ok-from.ensures.acts w (c.in_ok-file.ensures.narrows w before) (link w.tree (has_room capacity w.tree))
    ∙ link_refused w.tree (has_room capacity w.tree) (look.means from.directory w) from.component.now (node_at (look.means to.directory w))
    to.component.now (look.means file w) e (c.in_ok-file.ensures.there w before) (c.in_ok-file.ensures.file w before) h)
    (c.in_err-check_vacant.ensures.fault_of_link (λ w. entry_in (look.means file w)))
