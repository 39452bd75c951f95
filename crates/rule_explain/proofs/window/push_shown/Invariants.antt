-- The bytes so far were added.
use Rattle.std.proofs.Common.{◌≡◌, ◌++◌, map, take}
use Rattle.std.specs.Prelude.{string_bytes}
use Rattle.rule_explain.specs.Windows.{shown}
use Rattle.rule_explain.proofs.window.push_shown.Given as goal

abbrev pub invariant-loop-byte : goal.invariant-loop-byte
invariant-loop-byte l = string_bytes l.lines ≡ string_bytes l.initial.lines ++ map shown (take l.byte-index l.bytes)
