-- The states so far are those of their names, and one step was taken for each byte of these.
use Rattle.std.proofs.Common.{◌≡◌, ◌+◌, ◌*◌, ◌<◌, ℕ, length, Some, slice_get}
use Rattle.tables.specs.Tables.{state_after}
use Rattle.loop_bench.specs.Walks.{name_at, name_length}
use Rattle.loop_bench.proofs.runs.run_all.Given as goal

abbrev pub invariant-loop-place : goal.invariant-loop-place
invariant-loop-place l = record {
  long : length l.states ≡ length l.initial.states;
  steps : l.steps ≡ l.initial.steps + l.place * name_length l.names l.initial.states;
  after : (i s : ℕ) → i < l.place → slice_get l.states i ≡ Some s → state_after l.table (name_at l.names l.initial.states i) ≡ Some s;
}
