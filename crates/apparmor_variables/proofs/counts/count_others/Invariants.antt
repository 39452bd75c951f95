-- With what the variables from this place on count, it is what all but the first count.
use Rattle.std.proofs.Common.{ℕ, ◌+◌, ◌≤◌, drop}
use Rattle.apparmor_variables.specs.Counts.{CountTogether, OthersCount}
use Rattle.apparmor_variables.specs.inner.Way.{IsSound}
use Rattle.apparmor_variables.proofs.counts.count_others.Given as goal

abbrev pub invariant-loop-place : goal.invariant-loop-place
invariant-loop-place l = record {
  sound : IsSound l.declared l.made;
  whole : (rest : ℕ) → CountTogether l.declared (drop l.place l.declared) rest → OthersCount l.declared (l.all + rest);
  most : l.all ≤ l.most;
}
