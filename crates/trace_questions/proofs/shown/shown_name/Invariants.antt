-- The bytes so far are shown.
use Rattle.std.proofs.Common.{◌≡◌, take}
use Rattle.std.specs.List.{flat_map}
use Rattle.trace_questions.specs.Shown.{shown_byte}
use Rattle.trace_questions.proofs.shown.shown_name.Given as goal

abbrev pub invariant-loop-byte : goal.invariant-loop-byte
invariant-loop-byte l = l.text.items ≡ flat_map shown_byte (take l.byte-index l.name)
