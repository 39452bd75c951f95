-- What was added, and what is still to be added, are the joined words.
use Rattle.std.proofs.Common.{◌≡◌, ◌++◌, drop, not, ◌==◌}
use Rattle.apparmor_rules.specs.Whats.{joined}
use Rattle.trace_import.proofs.JoinedWords.{behind}
use Rattle.trace_import.proofs.lines.put_whats.Given as goal

abbrev pub invariant-loop-i : goal.invariant-loop-i
invariant-loop-i l = l.lines.items ++ behind (not (l.i == 0)) (drop l.i l.whats) ≡ l.initial.lines.items ++ joined l.whats
