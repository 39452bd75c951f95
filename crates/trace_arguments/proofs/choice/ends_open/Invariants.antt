-- What is left of the bytes, from here.
use Rattle.std.proofs.Common.{◌≡◌, false, drop}
use Rattle.trace_arguments.specs.Choices.{ends_open}
use Rattle.trace_arguments.proofs.choice.ends_open.Given as goal

abbrev pub invariant-loop-byte : goal.invariant-loop-byte
invariant-loop-byte l = ends_open l.escaped (drop l.byte-index l.bytes) ≡ ends_open false l.bytes
