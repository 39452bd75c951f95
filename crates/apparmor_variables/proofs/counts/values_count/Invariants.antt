-- With the bytes of the values that are left, it is the bytes of all.
use Rattle.std.proofs.Common.{◌≡◌, ◌≤◌, ◌+◌, map, drop}
use Rattle.apparmor_variables.specs.Variables.{byte_count}
use Rattle.apparmor_variables.proofs.counts.values_count.Given as goal

abbrev pub invariant-loop-value : goal.invariant-loop-value
invariant-loop-value l = record {
  sum : l.bytes + byte_count (map (λ value. value.now) (drop l.value-index l.values)) ≡ byte_count (map (λ value. value.now) l.values);
  most : l.bytes ≤ l.most;
}
