-- None of the bytes before is a control byte.
use Rattle.std.proofs.Common.{◌≡◌, drop}
use Rattle.script_notes.specs.ControlBytes.{first_control}
use Rattle.script_notes.proofs.control.first_control.Given as goal

abbrev pub invariant-loop-byte : goal.invariant-loop-byte
invariant-loop-byte l = first_control (drop l.byte-index l.line) ≡ first_control l.line
