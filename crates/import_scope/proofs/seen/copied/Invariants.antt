-- The first values are copied.
use Rattle.std.proofs.Common.{◌≡◌, map, take}
use Rattle.import_scope.proofs.seen.copied.Given as goal

abbrev pub invariant-loop-value : goal.invariant-loop-value
invariant-loop-value l = map (λ value. value.now) l.values.items ≡ map (λ value. value.now) (take l.value-index l.value-items)
