-- The first n bytes are a name's.
use Rattle.std.proofs.Common.{◌≡◌, ◌+◌, ◌-◌, length, drop}
use Rattle.std.specs.List.{prefix_len}
use Rattle.apparmor_pieces.specs.Pieces.{is_name_byte}
use Rattle.apparmor_pieces.proofs.pieces.name_length.Given as goal

abbrev pub invariant-loop-length : goal.invariant-loop-length
invariant-loop-length l = l.length + prefix_len is_name_byte (drop l.length l.bytes) ≡ prefix_len is_name_byte l.bytes

abbrev pub decreases-loop-length : goal.decreases-loop-length
decreases-loop-length l = length l.bytes - l.length
