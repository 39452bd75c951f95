use Rattle.std.proofs.Common.{[], arith}
use Rattle.trace_steps.proofs.Stages.{led_on, led_by_reads}
use Rattle.trace_steps.proofs.Unread.{walks_fall}
use Rattle.trace_steps.proofs.calls.read_all_cells.Goals as goal

pub loop-count-smaller : goal.loop-count-smaller
loop-count-smaller g c =
    let m = g.M.EventMachine.machine in
    walks_fall c.args.session c.in-Ok.count (m c.loop-count.machine) (m c.read_cells.new.self) [] (omega arith) c.in-Ok.ensures.ok.1

pub loop-count-preserved : goal.loop-count-preserved
loop-count-preserved g c =
    let m = g.M.EventMachine.machine in
    led_on c.args.session (m c.args.machine.now) (m c.loop-count.machine) (m c.read_cells.new.self) c.loop-count.invariant
    (led_by_reads c.args.session c.in-Ok.count (m c.loop-count.machine) (m c.read_cells.new.self) c.in-Ok.ensures.ok.1)

pub returns-in-Ok-2-clause-led : goal.returns-in-Ok-2-clause-led
returns-in-Ok-2-clause-led g c =
    let m = g.M.EventMachine.machine in
    led_on c.args.session (m c.args.machine.now) (m c.loop-count.machine) (m c.read_cells.new.self) c.loop-count.invariant
    (led_by_reads c.args.session c.in-Ok-2.field-0 (m c.loop-count.machine) (m c.read_cells.new.self) c.in-Ok-2.ensures.ok.1)
