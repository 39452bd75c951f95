-- The items so far are the bytes that the name begins with.
use Rattle.std.proofs.Common.{◌↔◌, ◌≤◌, length, drop}
use Rattle.rule_globs.specs.Glob.{Takes}
use Rattle.rule_globs.specs.Meaning.{meaning_of}
use Rattle.rule_globs.proofs.matches.written_front.Given as goal

abbrev pub invariant-loop-i : goal.invariant-loop-i
invariant-loop-i l = record {
  within : l.i ≤ length l.bytes;
  same : Takes (meaning_of l.items) l.bytes ↔ Takes (meaning_of (drop l.i l.items)) (drop l.i l.bytes);
}
