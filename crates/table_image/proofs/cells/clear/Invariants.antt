use Rattle.std.proofs.Common.{◌≡◌, ◌-◌, length}
use Rattle.table_image.specs.inner.PackSteps.{IsWalk}
use Rattle.table_image.proofs.cells.clear.Given as goal

abbrev pub invariant-loop-rest : goal.invariant-loop-rest
invariant-loop-rest l = record { long : length l.counts ≡ length l.fn.counts; walk : IsWalk l.rest (length l.fn.counts) l.from }

abbrev pub decreases-loop-rest : goal.decreases-loop-rest
decreases-loop-rest l = 256 - l.from
