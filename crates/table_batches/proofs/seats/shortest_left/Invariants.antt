-- None of the names so far has fewer bytes left.
use Rattle.std.proofs.Common.{ℕ, ◌+◌, ◌<◌, ◌≤◌, get_or}
use Rattle.table_batches.proofs.seats.shortest_left.Given as goal

abbrev pub invariant-loop-k : goal.invariant-loop-k
invariant-loop-k l = (j : ℕ) → j < l.k → get_or l.places j 0 + l.least ≤ get_or l.offsets (get_or l.names j 0 + 1) 0
