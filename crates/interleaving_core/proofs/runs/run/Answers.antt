use Rattle.std.proofs.Common.{List, subst, ap}
use Rattle.std.specs.Prelude.{map}
use Rattle.std.proofs.lemmas.List.{take_all}
use Rattle.event_machine.specs.Machine.{Event}
use Rattle.event_machine.specs.Coded.{event_of}
use Rattle.interleaving_core.specs.Parts.{machine_of}
use Rattle.interleaving_core.specs.Runs.{Passes}
use Rattle.interleaving_core.proofs.PassedEvents.{passes_more, short_at, on_err_of, is_run}
use Rattle.interleaving_core.proofs.runs.run.Goals as goal

pub returns-in_err-pass-clause-err : goal.returns-in_err-pass-clause-err
returns-in_err-pass-clause-err c =
    let l = c.loop-event in
    on_err_of c.from_residual.result
    (short_at (machine_of c.args.core.now) c.args.events.now l.event-index c.event-item.result l.invariant.0 l.answers.items
    (machine_of l.core) (machine_of c.pass.new.core) c.loop-event-test.true c.event-item.is l.invariant.1
    c.in_err-pass.ensures.err)

pub loop-event-preserved : goal.loop-event-preserved
loop-event-preserved c =
    let l = c.loop-event in
    passes_more (machine_of c.args.core.now) c.args.events.now l.event-index c.event-item.result l.invariant.0 l.answers.items
    c.pass.new.answers.items (machine_of l.core) (machine_of c.pass.new.core) c.loop-event-test.true
    c.event-item.is l.invariant.1 c.in_ok-pass.ensures.ok

pub returns-clause-ok : goal.returns-clause-ok
returns-clause-ok c =
    let l = c.loop-event in
    let old = machine_of c.args.core.now in
    let events = map event_of c.args.events.now in
    is_run c.steps_go_on_runs.ensures c.answers_are_right.ensures old events l.invariant.0 l.answers.items (machine_of l.core)
    (subst (λ (es : List Event). Passes old es l.invariant.0 l.answers.items (machine_of l.core))
    (ap (map event_of) (take_all l.event-index c.args.events.now c.loop-event-test.false)) l.invariant.1)
