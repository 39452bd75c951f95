-- No byte so far is a line feed.
use Rattle.std.proofs.Common.{◌≡◌, ◌-◌, ◌<◌, ◌≤◌, ℕ, false, get_or, length}
use Rattle.rule_explain.specs.Places.{is_line_feed}
use Rattle.trace_import.proofs.account.first_line.Given as goal

abbrev pub invariant-loop-end : goal.invariant-loop-end
invariant-loop-end l = record {
  within : l.end ≤ length l.bytes;
  before : (k : ℕ) → k < l.end → is_line_feed (get_or l.bytes k 0) ≡ false;
}

abbrev pub decreases-loop-end : goal.decreases-loop-end
decreases-loop-end l = length l.bytes - l.end
