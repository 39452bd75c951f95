use Rattle.std.proofs.Common.{rules}
use Rattle.path_storm.proofs.threads.start_workers.Goals as goal

pub loop-worker-preserved : goal.loop-worker-preserved
loop-worker-preserved g c = record { count = search rules; promised = search rules }
