-- Each of the rules before the index decides some of the permissions.
use Rattle.std.proofs.Common.{◌≡◌, None, find, take}
use Rattle.trace_lint.specs.Parts.{decided_by, decides_none_of}
use Rattle.trace_lint.proofs.findings.first_idle.Given as goal

abbrev pub invariant-loop-number : goal.invariant-loop-number
invariant-loop-number l =
    find (λ n. decides_none_of l.perms (decided_by l.decided n)) (take l.number-index l.numbers) ≡ None
