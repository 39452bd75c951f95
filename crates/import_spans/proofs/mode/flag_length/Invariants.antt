-- The first bytes are the flag's.
use Rattle.std.proofs.Common.{◌≡◌, ◌+◌, ◌-◌, ◌≤◌, length, drop}
use Rattle.rule_reader.specs.ReadWords.{leading}
use Rattle.apparmor_words.specs.Conditions.{is_flag_byte}
use Rattle.import_spans.proofs.mode.flag_length.Given as goal

abbrev pub invariant-loop-length : goal.invariant-loop-length
invariant-loop-length l = record {
  fits : l.length ≤ length l.bytes;
  so_far : l.length + length (leading is_flag_byte (drop l.length l.bytes)) ≡ length (leading is_flag_byte l.bytes);
}

abbrev pub decreases-loop-length : goal.decreases-loop-length
decreases-loop-length l = length l.bytes - l.length
