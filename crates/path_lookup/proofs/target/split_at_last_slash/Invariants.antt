use Rattle.std.proofs.Common.{◌≡◌, ◌≤◌, ◌==◌, false, length, drop}
use Rattle.std.specs.List.{list_any}
use Rattle.directory_tree.specs.Components.{slash}
use Rattle.path_lookup.proofs.target.split_at_last_slash.Given as goal

abbrev pub invariant-loop-start : goal.invariant-loop-start
invariant-loop-start l = (l.start ≤ length l.text) × (list_any (λ b. b == slash) (drop l.start l.text) ≡ false)

abbrev pub decreases-loop-start : goal.decreases-loop-start
decreases-loop-start l = l.start
