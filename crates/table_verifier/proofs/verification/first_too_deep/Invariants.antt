-- No state so far is too deep.
use Rattle.std.proofs.Common.{ℕ, ◌<◌, get_or}
use Rattle.tables.specs.Bounds.{IsTooDeep}
use Rattle.tables.specs.Tables.{table_value}
use Rattle.table_verifier.proofs.verification.first_too_deep.Given as goal

abbrev pub invariant-loop-place : goal.invariant-loop-place
invariant-loop-place l = (k : ℕ) → k < l.place → ¬ (IsTooDeep (table_value l.table) k (get_or l.table.depth.items k 0))
