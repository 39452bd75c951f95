-- What is left of the text, from this spot on.
use Rattle.std.proofs.Common.{◌≡◌, drop}
use Rattle.rule_making.specs.Alike.{alike_from, is_read_alike}
use Rattle.rule_making.proofs.alike.is_read_alike.Given as goal

abbrev pub invariant-loop-byte : goal.invariant-loop-byte
invariant-loop-byte l = alike_from l.spot l.escaped (drop l.byte-index l.text) ≡ is_read_alike l.text
