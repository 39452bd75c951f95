use Rattle.std.proofs.Common.{◌∙◌}
use Rattle.path_storm.proofs.storm.storm_log.Goals as goal

pub returns : goal.returns
returns g c =
    let threads = c.in_ok-ask.ensures in
    record {
      ask = threads.ask ∙ c.with.ensures;
      opened = (threads.opened.0 ∙ c.in_ok-workers.ensures, rw threads.ask threads.opened.1);
      tree = c.in_ok-and.ensures _ _ c.in_ok-laid.ensures.0 threads.tree;
      policy = c.in_ok-and-2.ensures _ _ c.in_ok-laid.ensures.1 threads.policy;
    }
