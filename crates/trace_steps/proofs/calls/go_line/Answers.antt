use Rattle.std.proofs.Common.{◌≡◌, ◌++◌, codes, decimal, rules}
use Rattle.trace_steps.specs.StepLines.{Goes, not_now, told_text}
use Rattle.trace_steps.proofs.CallEnds.{goes, goes_not}
use Rattle.trace_steps.proofs.Commands.{has_line}
use Rattle.trace_steps.proofs.calls.go_line.Goals as goal

pub returns-in_ok-start-in-Some : goal.returns-in_ok-start-in-Some
returns-in_ok-start-in-Some g c =
    let s = c.args.session in
    let old = g.M.EventMachine.machine c.args.machine.now in
    let new = g.M.EventMachine.machine c.finish.new.machine in
    let told = c.in-Some.told in
    let starts : c.deref.result.now ≡ decimal s ++ codes ": " = search rules in
    has_line (λ lines. Goes old s lines new) (c.deref.result.now ++ told_text c.name.result.now told) c.told_line.result
    c.told_line.ensures (goes s old new c.in_ok-told.field-0 told c.deref.result.now c.name.result.now c.in-Some.is c.in_ok-told.ensures
    starts c.name.ensures)

pub returns-in-None : goal.returns-in-None
returns-in-None g c =
    let s = c.args.session in
    let old = g.M.EventMachine.machine c.args.machine.now in
    let new = g.M.EventMachine.machine c.finish.new.machine in
    has_line (λ lines. Goes old s lines new) not_now c.not_now_line.result c.not_now_line.ensures
    (goes_not s old new c.in_ok-told.field-0 c.in-None.is c.in_ok-told.ensures)
