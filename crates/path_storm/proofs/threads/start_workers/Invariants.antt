use Rattle.std.proofs.Common.{◌≡◌, ◌+◌, All, vec_len}
use Rattle.path_storm.proofs.threads.start_workers.Given as goal

-- each worker is either started or still to be started
abbrev pub invariant-loop-worker : goal.invariant-loop-worker
invariant-loop-worker g l = record {
  count : vec_len l.openings + vec_len l.workers ≡ vec_len l.fn.workers;
  promised : All (λ opening. opening.promise ≡ l.scene.opens) l.openings.items;
}

abbrev pub decreases-loop-worker : goal.decreases-loop-worker
decreases-loop-worker g l = vec_len l.workers
