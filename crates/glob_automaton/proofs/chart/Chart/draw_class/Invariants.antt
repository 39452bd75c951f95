-- The bytes before this one are recorded.
use Rattle.std.proofs.Common.{◌≡◌, ℕ, ◌<◌, length, false, slice_index_or}
use Rattle.rule_globs.specs.Glob.{fits, class}
use Rattle.glob_automaton.proofs.chart.Chart.draw_class.Given as goal

abbrev pub invariant-loop-byte : goal.invariant-loop-byte
invariant-loop-byte l =
    (length l.taken ≡ 256) × ((k : ℕ) → k < l.byte → slice_index_or l.taken k false ≡ fits (class l.class.negated l.class.ranges) k)
