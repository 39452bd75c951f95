-- The word is of the bytes so far.
use Rattle.std.proofs.Common.{◌≡◌, take}
use Rattle.rule_globs.specs.Glob.{class}
use Rattle.rule_globs.specs.inner.Blocks.{taken}
use Rattle.rule_globs.proofs.block.Block.in_class.Given as goal

abbrev pub invariant-loop-i : goal.invariant-loop-i
invariant-loop-i l = l.word ≡ taken (class l.listed.negated l.listed.ranges) (take l.i l.byte-items)
