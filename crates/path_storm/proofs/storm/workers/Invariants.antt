use Rattle.std.proofs.Common.{◌≡◌, vec_len}
use Rattle.path_storm.proofs.storm.workers.Given as goal

abbrev pub invariant-loop-number : goal.invariant-loop-number
invariant-loop-number g l = vec_len l.workers ≡ l.number
