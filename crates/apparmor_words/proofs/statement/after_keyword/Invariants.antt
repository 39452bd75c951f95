-- What the loop has passed is a part of the statement, and no more is open than bytes were passed.
use Rattle.std.proofs.Common.{◌≡◌, ◌≤◌, ◌+◌, length}
use Rattle.apparmor_words.specs.Statements.{statement_at, nothing_open}
use Rattle.apparmor_words.proofs.statement.after_keyword.Given as goal

abbrev pub invariant-loop-rest : goal.invariant-loop-rest
invariant-loop-rest l = record {
  so_far : statement_at l.unclosed l.rest ≡ statement_at nothing_open l.bytes;
  parentheses : l.unclosed.parentheses + length l.rest ≤ length l.bytes;
  braces : l.unclosed.braces + length l.rest ≤ length l.bytes;
}

abbrev pub decreases-loop-rest : goal.decreases-loop-rest
decreases-loop-rest l = length l.rest
