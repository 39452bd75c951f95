-- The bits are those after the name so far without the block.
use Rattle.std.proofs.Common.{◌<◌, ◌≤◌, length, take}
use Rattle.rule_globs.specs.Glob.{places}
use Rattle.rule_globs.specs.Meaning.{meaning_of}
use Rattle.rule_globs.proofs.WholeSweeps.{IsUpto}
use Rattle.rule_globs.proofs.matches.take_rest.Given as goal

abbrev pub invariant-loop-byte : goal.invariant-loop-byte
invariant-loop-byte l = record {
  room : places (meaning_of l.items) ≤ length l.live;
  some : 0 < length l.block;
  few : length l.block ≤ 64;
  upto : IsUpto (meaning_of l.items) (take l.byte-index l.bytes) l.block l.reached l.live;
}
