-- The bytes so far were added.
use Rattle.std.proofs.Common.{◌≡◌, ◌++◌, map, take}
use Rattle.apparmor_rules.specs.ShownTexts.{shown_byte}
use Rattle.import_origins.proofs.put.push_shown.Given as goal

abbrev pub invariant-loop-byte : goal.invariant-loop-byte
invariant-loop-byte l = l.lines.items ≡ l.initial.lines.items ++ map shown_byte (take l.byte-index l.bytes)
