use Rattle.std.proofs.Common.{◌≡◌, arith}
use Rattle.std.specs.declared.thread.PromisedHandle.{PromisedHandle}
use Rattle.std.specs.Prelude.{Result}
use Rattle.std.proofs.lemmas.List.Elements.{All-pop}
use Rattle.path_storm.specs.declared.fault.StormFault.{StormFault}
use Rattle.path_storm.specs.declared.worker.Opens.{Opens}
use Rattle.path_storm.specs.declared.log.SessionLog.{SessionLog}
use Rattle.path_storm.proofs.Opened.{joined_more}
use Rattle.path_storm.proofs.Pushed.{one_more}
use Rattle.path_storm.proofs.threads.join_all.Goals as goal

pub loop-opening-preserved : goal.loop-opening-preserved
loop-opening-preserved g c =
    let P : PromisedHandle (Result SessionLog StormFault) Opens → Type 0 = λ opening. opening.promise ≡ c.args.opens in
    let popped = All-pop P c.loop-opening.openings.items c.pop.new.self.items c.pop.result c.pop.ensures.items
    c.loop-opening.invariant.promised in
    let same : c.in-Some.opening.promise ≡ c.args.opens = rw c.in-Some.is at popped.1 in
    let taken = one_more c.pop.new.self c.loop-opening.openings c.in-Some.opening (rw c.in-Some.is at c.pop.ensures.items) in
    let joined = one_more c.loop-opening.all c.push.new.self c.in_ok-join.field-0 c.in_ok-push.ensures.items in
    record {
      count = omega (arith, taken, joined, c.loop-opening.invariant.count);
      promised = popped.0;
      opened =
          joined_more c.args.opens c.in-Some.opening.promise c.loop-opening.all c.push.new.self c.in_ok-join.field-0 same
          c.in_ok-join.ensures c.in_ok-push.ensures.items c.loop-opening.invariant.opened;
    }
