use Rattle.std.proofs.Common.{◌∙◌}
use Rattle.path_storm.proofs.Opened.{opened_more}
use Rattle.path_storm.proofs.worker.Worker.open_all.Goals as goal

pub loop-call-preserved : goal.loop-call-preserved
loop-call-preserved g c =
    let opened = c.open-answer.ensures in
    record {
      ours = opened.same.0 ∙ c.loop-call.invariant.ours;
      opened =
          opened_more _ c.loop-call.call c.loop-call.session c.open-answer.new.session c.loop-call.answers c.push.new.self
          c.open-answer.result c.in_ok-push.ensures.items opened.same opened.history opened.policy_read opened.refused opened.justified
          c.loop-call.invariant.opened;
    }
