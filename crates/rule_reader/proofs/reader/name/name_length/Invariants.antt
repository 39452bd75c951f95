-- The first n bytes are a name's, and what is still read is the rest of it.
use Rattle.std.proofs.Common.{◌≡◌, ◌-◌, ◌≤◌, length, take, drop, false}
use Rattle.rule_reader.specs.ReadWords.{name_bytes}
use Rattle.rule_reader.proofs.ReadLoops.{with_front}
use Rattle.rule_reader.proofs.reader.name.name_length.Given as goal

abbrev pub invariant-loop-length : goal.invariant-loop-length
invariant-loop-length l = record {
  few : l.length ≤ l.room;
  within : l.length ≤ length l.bytes;
  so_far : with_front (take l.length l.bytes) (name_bytes l.quoted (length l.bytes) l.escaped (l.room - l.length) (drop l.length l.bytes))
      ≡ name_bytes l.quoted (length l.bytes) false l.room l.bytes;
}

abbrev pub decreases-loop-length : goal.decreases-loop-length
decreases-loop-length l = length l.bytes - l.length
