-- Each number so far is below the bound.
use Rattle.std.proofs.Common.{ℕ, ◌<◌, get_or}
use Rattle.table_verifier.proofs.verification.first_at_least.Given as goal

abbrev pub invariant-loop-place : goal.invariant-loop-place
invariant-loop-place l = (k : ℕ) → k < l.place → get_or l.numbers k 0 < l.bound
