-- The parts of the letters before the index.
use Rattle.std.proofs.Common.{◌≡◌, ◌++◌, take}
use Rattle.names.specs.Permissions.{all_permissions}
use Rattle.trace_lint.proofs.LetterParts.{parts_among}
use Rattle.trace_lint.proofs.parts.put_letters.Given as goal

abbrev pub invariant-loop-letter : goal.invariant-loop-letter
invariant-loop-letter l =
    l.parts.items ≡ l.initial.parts.items ++ parts_among l.rule l.letters l.decided (take l.letter-index all_permissions)
