-- A target that is there is that of each byte alike; one that is found is kept for them.
use Rattle.std.proofs.Common.{◌<◌, arith, refl}
use Rattle.glob_automaton.specs.inner.Alike.{least_of}
use Rattle.glob_automaton.specs.inner.States.{lists_of}
use Rattle.glob_automaton.proofs.RowSteps.{one_more_shared, shared_stay, on_ok}
use Rattle.glob_automaton.proofs.subsets.shared_target.Goals as goal

pub returns-then-named-byte-clause-others : goal.returns-then-named-byte-clause-others
returns-then-named-byte-clause-others c = on_ok c.target_of.result
    (λ kept. shared_stay c.args.chart.now c.args.classes.now.least c.args.named.now c.args.set.now (lists_of c.args.sets.now)
    (lists_of c.target_of.new.sets) c.args.others.now kept c.requires.others)
    c.target_of.ensures.kept

pub returns-in-Some-clause-target : goal.returns-in-Some-clause-target
returns-in-Some-clause-target c =
    let small : c.args.byte < 256 = omega arith in
    c.requires.others.shared (least_of c.args.classes.now.least c.args.byte) c.args.byte c.in-Some.target c.in-Some.is small
    refl c.if-named-byte.false

pub returns-clause-others : goal.returns-clause-others
returns-clause-others c =
    let small : c.args.byte < 256 = omega arith in
    one_more_shared c.args.chart.now c.args.classes.now.least c.args.named.now c.args.set.now (lists_of c.args.sets.now)
    (lists_of c.target_of-2.new.sets) c.args.others.now c.in_ok-target.ensures.kept c.requires.others c.args.byte
    (least_of c.args.classes.now.least c.args.byte) c.in_ok-target.target small
    c.in_ok-target.ensures.target c.requires.chart c.requires.alike c.requires.named refl c.if-named-byte.false
