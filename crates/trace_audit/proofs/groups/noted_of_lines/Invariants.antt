-- What is noted, and the lines that are left, lead to all groups.
use Rattle.std.proofs.Common.{◌≡◌, ◌+◌, [], drop, map}
use Rattle.trace_audit.specs.Groups.{groups_after}
use Rattle.trace_audit.proofs.groups.noted_of_lines.Given as goal

abbrev pub invariant-loop-i : goal.invariant-loop-i
invariant-loop-i l = groups_after (l.i + 1) (map (λ line. line.now) (drop l.i l.lines)) l.groups
    ≡ groups_after 1 (map (λ line. line.now) l.lines) []
