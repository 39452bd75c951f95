-- The bytes so far were added.
use Rattle.std.proofs.Common.{◌≡◌, ◌++◌, map, take}
use Rattle.apparmor_rules.specs.ShownTexts.{shown_byte}
use Rattle.trace_audit.proofs.lines.put_shown.Given as goal

abbrev pub invariant-loop-byte : goal.invariant-loop-byte
invariant-loop-byte l = l.line.items ≡ l.initial.line.items ++ map shown_byte (take l.byte-index l.name)
