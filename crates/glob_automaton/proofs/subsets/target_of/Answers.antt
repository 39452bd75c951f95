-- The step is gathered, and it has its number.
use Rattle.std.proofs.Common.{◌<◌, Ok, Err, arith}
use Rattle.glob_automaton.specs.inner.States.{lists_of}
use Rattle.glob_automaton.proofs.SetPlaces.{set_places}
use Rattle.glob_automaton.proofs.SetSteps.{target_sets, target_fault}
use Rattle.glob_automaton.proofs.subsets.target_of.Goals as goal

pub gather_step-requires-clause-set : goal.gather_step-requires-clause-set
gather_step-requires-clause-set c = set_places c.args.chart.now (lists_of c.args.sets.now) c.args.set.now c.requires.chart
    c.requires.sets.0 c.requires.set

pub returns-in-Ok-clause-sets : goal.returns-in-Ok-clause-sets
returns-in-Ok-clause-sets c =
    let small : c.args.byte < 256 = omega arith in
    target_sets c.args.chart.now (lists_of c.args.sets.now) (lists_of c.number.new.self) c.args.set.now
    c.gather_step.new.gathering.places.items c.places.result.now c.args.byte c.requires.sets c.requires.set small
    c.in_ok-gather_step.ensures.step c.places.ensures (Ok c.in-Ok.number) c.in-Ok.ensures.ok

pub returns-in-Err-clause-err : goal.returns-in-Err-clause-err
returns-in-Err-clause-err c =
    let small : c.args.byte < 256 = omega arith in
    target_fault c.args.chart.now (lists_of c.args.sets.now) (lists_of c.number.new.self) c.args.set.now
    c.gather_step.new.gathering.places.items c.places.result.now c.args.byte c.requires.sets c.requires.set small
    c.in_ok-gather_step.ensures.step c.places.ensures (Err c.in-Err.fault) c.in-Err.ensures.err
