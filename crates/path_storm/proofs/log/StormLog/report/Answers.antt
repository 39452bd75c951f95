use Rattle.std.proofs.Common.{take, length, ap, arith, length-append}
use Rattle.path_storm.proofs.Counts.{answers_more, one_session, by_followed}
use Rattle.path_storm.specs.Counts.{answers_of}
use Rattle.path_storm.specs.declared.setup.TheConstants.{FILE, PROFILE}
use Rattle.path_storm.proofs.log.StormLog.report.Goals as goal

pub loop-own-preserved : goal.loop-own-preserved
loop-own-preserved c =
    let so_far = c.loop-own.invariant in
    let own = c.own-item.result in
    let log = c.args.self.now in
    let low = rw c.deref-own-items.ensures.value at c.loop-own-test.true in
    let here = rw c.deref-own-items.ensures.value at c.own-item.is in
    let more = ap length (answers_more c.args.self.now.sessions.items c.loop-own.own-index own low here) in
    let counted =
    by_followed PROFILE.now FILE.now log.ask c.in_ok-trail.trail c.as_slice.result.now log.tree.made.items
    c.as_slice-in-loop-own.result.now log.policy.made.items c.as_slice-answers.result.now own.answers.items
    c.unjustified-unjustified.result
    c.in_ok-trail.ensures c.as_slice.ensures.value c.as_slice-in-loop-own.ensures.value c.as_slice-answers.ensures.value
    c.unjustified-unjustified.ensures in
    record {
      answers = omega (
        arith,
        more,
        length-append (answers_of (take c.loop-own.own-index c.args.self.now.sessions.items))
            own.answers.items,
        c.in_ok-sum.ensures.ok,
        ap length c.as_slice-answers.ensures.value,
        so_far.answers,
      );
      unjustified = rw c.in_ok-sum-2.ensures.ok (one_session _ c.args.self.now.sessions.items c.loop-own.own-index own
          c.loop-own.report.unjustified c.unjustified-unjustified.result low here so_far.unjustified counted);
    }
