use Rattle.std.proofs.Common.{◌++◌, codes, decimal}
use Rattle.trace_steps.specs.StepLines.{ClosesOpen}
use Rattle.trace_steps.proofs.ChangeEnds.{closes_now, closes_open}
use Rattle.trace_steps.proofs.Commands.{has_line}
use Rattle.trace_steps.proofs.changes.close_open_change.Goals as goal

pub unreachable-requires : goal.unreachable-requires
unreachable-requires g c =
    let m = g.M.EventMachine.machine in
    c.in-Err-NotNow.ensures.not_now c.in-Err-NotNow.field-0-is
    (closes_now (m c.args.machine.now) (m c.set_all_cells.new.machine) c.requires c.in_ok-set_all_cells.ensures.runs
    c.in_ok-set_all_cells.ensures.all)

pub returns-in-Ok : goal.returns-in-Ok
returns-in-Ok g c =
    let old = g.M.EventMachine.machine c.args.machine.now in
    let mid = g.M.EventMachine.machine c.set_all_cells.new.machine in
    let new = g.M.EventMachine.machine c.step.new.self in
    let version = c.tree_version.result in
    has_line (λ lines. ClosesOpen old lines new) (codes "ok " ++ decimal version) c.version_line.result c.version_line.ensures
    (closes_open old mid new c.in-Ok.field-0 version c.in_ok-set_all_cells.ensures.runs c.in-Ok.ensures.ok c.tree_version.ensures)
