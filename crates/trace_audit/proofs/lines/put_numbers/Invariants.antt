-- What was added, and what is still to be added, are the joined numbers.
use Rattle.std.proofs.Common.{◌≡◌, ◌++◌, drop, not, ◌==◌}
use Rattle.trace_audit.specs.Lines.{numbers_text}
use Rattle.trace_audit.proofs.JoinedNumbers.{behind}
use Rattle.trace_audit.proofs.lines.put_numbers.Given as goal

abbrev pub invariant-loop-i : goal.invariant-loop-i
invariant-loop-i l = l.line.items ++ behind (not (l.i == 0)) (drop l.i l.numbers) ≡ l.initial.line.items ++ numbers_text l.numbers
