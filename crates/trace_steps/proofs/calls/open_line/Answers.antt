use Rattle.event_machine.specs.Machine.{Call}
use Rattle.trace_steps.specs.StepLines.{OpensWhole, not_now, told_text}
use Rattle.trace_steps.proofs.CallEnds.{opens_not, opens_so, opens_whole}
use Rattle.trace_steps.proofs.Commands.{has_line}
use Rattle.trace_steps.proofs.calls.open_line.Goals as goal

pub returns-in-Err-NotNow : goal.returns-in-Err-NotNow
returns-in-Err-NotNow g c =
    let old = g.M.EventMachine.machine c.args.machine.now in
    let new = g.M.EventMachine.machine c.step.new.self in
    let call : Call = record { profile = c.args.profile.now; path = c.args.path.now; ask = c.args.ask } in
    has_line (λ lines. OpensWhole old call lines new) not_now c.not_now_line.result c.not_now_line.ensures
    (opens_not old new call (c.in-Err-NotNow.ensures.not_now c.in-Err-NotNow.field-0-is) c.in-Err-NotNow.ensures.same)

pub unreachable-requires : goal.unreachable-requires
unreachable-requires g c =
    let m = g.M.EventMachine.machine in
    let call : Call = record { profile = c.args.profile.now; path = c.args.path.now; ask = c.args.ask } in
    opens_so (m c.args.machine.now) (m c.step.new.self) (m c.finish.new.machine) call c.in-Ok.field-0 c.in_ok-told.field-0
    c.in-Ok.ensures.ok c.in-None.is c.in_ok-told.ensures

pub returns : goal.returns
returns g c =
    let old = g.M.EventMachine.machine c.args.machine.now in
    let mid = g.M.EventMachine.machine c.step.new.self in
    let new = g.M.EventMachine.machine c.finish.new.machine in
    let call : Call = record { profile = c.args.profile.now; path = c.args.path.now; ask = c.args.ask } in
    let told = c.in-Some.told in
    has_line (λ lines. OpensWhole old call lines new) (told_text c.name.result.now told) c.told_line.result c.told_line.ensures
    (opens_whole old mid new call c.in-Ok.field-0 c.in_ok-told.field-0 told c.name.result.now c.in-Ok.ensures.ok c.in-Some.is
    c.in_ok-told.ensures c.name.ensures)
