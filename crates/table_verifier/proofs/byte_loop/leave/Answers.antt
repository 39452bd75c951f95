-- A byte leads by its cell, by a default to another state and on, or the state stays.
use Rattle.std.proofs.Common.{rules, ◌<◌, ◌∙◌, get_or, arith}
use Rattle.table_verifier.specs.laws.StepsOfTables.{look_ups_next, state_next}
use Rattle.table_verifier.proofs.byte_loop.leave.Goals as goal

pub returns-in-Some-clause-left : goal.returns-in-Some-clause-left
returns-in-Some-clause-left g c = record {
  on = omega arith;
  within = omega (arith, c.requires.within);
  there = c.follow.ensures.there;
  leads = state_next (g.E.Entries.table c.args.entries.now) c.args.start c.args.bytes.now c.args.from c.args.at.state
      c.requires.within c.requires.here
      ∙ c.in-Some.ensures.found.0 ∙ c.follow.ensures.next;
}

pub returns-in-Some-clause-look_ups : goal.returns-in-Some-clause-look_ups
returns-in-Some-clause-look_ups g c =
    let more = look_ups_next (g.E.Entries.table c.args.entries.now) c.args.start c.args.bytes.now c.args.from c.args.at.state
    c.requires.within c.requires.here in
    omega (arith, more, c.in-Some.ensures.found.1)

pub returns-then-default-at-clause-left : goal.returns-then-default-at-clause-left
returns-then-default-at-clause-left g c = record {
  on = omega arith;
  within = omega (arith, c.requires.within);
  there = c.without_cell.ensures.there;
  leads = state_next (g.E.Entries.table c.args.entries.now) c.args.start c.args.bytes.now c.args.from c.args.at.state
      c.requires.within c.requires.here
      ∙ c.without_cell.ensures.next;
}

pub returns-then-default-at-clause-look_ups : goal.returns-then-default-at-clause-look_ups
returns-then-default-at-clause-look_ups g c =
    let more = look_ups_next (g.E.Entries.table c.args.entries.now) c.args.start c.args.bytes.now c.args.from c.args.at.state
    c.requires.within c.requires.here in
    omega (arith, more, c.without_cell.ensures.look_ups)

pub loop-i-init : goal.loop-i-init
loop-i-init g c =
    let t = g.E.Entries.table c.args.entries.now in
    let byte : get_or c.args.bytes.now c.args.from 0 < 256 = search rules in
    let stay = c.default_of-default.ensures.stays c.if-default-at.false (get_or c.args.bytes.now c.args.from 0) byte
    c.in_default.ensures.found in
    let more = look_ups_next t c.args.start c.args.bytes.now c.args.from c.args.at.state c.requires.within c.requires.here in
    record {
      on = omega arith;
      here = state_next t c.args.start c.args.bytes.now c.args.from c.args.at.state c.requires.within c.requires.here ∙ stay.0;
      steps = omega (arith, c.look.ensures.steps);
      counted = omega arith;
      found = omega (arith, more, stay.1);
    }

pub returns-in-Some-look-clause-left : goal.returns-in-Some-look-clause-left
returns-in-Some-look-clause-left g c = record {
  on = omega (arith, c.loop-i.invariant.on);
  within = omega (arith, c.loop-i-test.true);
  there = c.follow-in-Some-look.ensures.there;
  leads = state_next (g.E.Entries.table c.args.entries.now) c.args.start c.args.bytes.now c.loop-i.i c.args.at.state
      c.loop-i-test.true c.loop-i.invariant.here
      ∙ c.in-Some-look.ensures.found.0 ∙ c.follow-in-Some-look.ensures.next;
}

pub returns-in-Some-look-clause-look_ups : goal.returns-in-Some-look-clause-look_ups
returns-in-Some-look-clause-look_ups g c =
    let more = look_ups_next (g.E.Entries.table c.args.entries.now) c.args.start c.args.bytes.now c.loop-i.i c.args.at.state
    c.loop-i-test.true c.loop-i.invariant.here in
    omega (arith, more, c.in-Some-look.ensures.found.1, c.loop-i.invariant.counted, c.loop-i.invariant.found, c.loop-i.invariant.on)

pub loop-i-preserved : goal.loop-i-preserved
loop-i-preserved g c =
    let t = g.E.Entries.table c.args.entries.now in
    let byte : get_or c.args.bytes.now c.loop-i.i 0 < 256 = search rules in
    let stay = c.default_of-default.ensures.stays c.if-default-at.false (get_or c.args.bytes.now c.loop-i.i 0) byte
    c.in_default-look.ensures.found in
    let more = look_ups_next t c.args.start c.args.bytes.now c.loop-i.i c.args.at.state c.loop-i-test.true c.loop-i.invariant.here in
    record {
      on = omega (arith, c.loop-i.invariant.on);
      here = state_next t c.args.start c.args.bytes.now c.loop-i.i c.args.at.state c.loop-i-test.true c.loop-i.invariant.here ∙ stay.0;
      steps = omega (arith, c.look-in-loop-i.ensures.steps, c.loop-i.invariant.steps, c.loop-i.invariant.on);
      counted = c.loop-i.invariant.counted;
      found = omega (arith, more, stay.1, c.loop-i.invariant.found, c.loop-i.invariant.on);
    }
