use Rattle.std.proofs.Common.{◌++◌, decimal}
use Rattle.mediation.specs.PolicyChanges.{deed_of}
use Rattle.trace_steps.specs.StepLines.{Publishes, not_now}
use Rattle.trace_steps.proofs.PublicationEnds.{published_not, published_so}
use Rattle.trace_steps.proofs.Commands.{has_line}
use Rattle.trace_steps.proofs.publication.publish.Goals as goal

pub returns-in-Ok : goal.returns-in-Ok
returns-in-Ok g c =
    let old = g.M.EventMachine.machine c.args.machine.now in
    let new = g.M.EventMachine.machine c.step.new.self in
    let deed = deed_of c.args.change in
    let version = c.policy_version.result in
    has_line (λ lines. Publishes old deed c.args.start.items lines new) (c.args.start.items ++ decimal version) c.numbered_line.result
    c.numbered_line.ensures (published_so old new deed c.args.start.items c.in-Ok.field-0 version c.in-Ok.ensures.ok
    c.policy_version.ensures)

pub returns-in-Err-NotNow : goal.returns-in-Err-NotNow
returns-in-Err-NotNow g c =
    let old = g.M.EventMachine.machine c.args.machine.now in
    let new = g.M.EventMachine.machine c.step.new.self in
    let deed = deed_of c.args.change in
    has_line (λ lines. Publishes old deed c.args.start.items lines new) not_now c.not_now_line.result c.not_now_line.ensures
    (published_not old new deed c.args.start.items (c.in-Err-NotNow.ensures.not_now c.in-Err-NotNow.field-0-is)
    c.in-Err-NotNow.ensures.same)
