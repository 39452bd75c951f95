-- No byte from here on is a line feed.
use Rattle.std.proofs.Common.{◌≡◌, ◌<◌, ◌≤◌, ℕ, true, get_or, length}
use Rattle.std.specs.Prelude.{not}
use Rattle.rule_explain.specs.Places.{is_line_feed}
use Rattle.rule_explain.proofs.place.last_line.Given as goal

abbrev pub invariant-loop-start : goal.invariant-loop-start
invariant-loop-start l = record {
  within : l.start ≤ length l.bytes;
  behind : (k : ℕ) → l.start ≤ k → k < length l.bytes → not (is_line_feed (get_or l.bytes k 0)) ≡ true;
}

abbrev pub decreases-loop-start : goal.decreases-loop-start
decreases-loop-start l = l.start
