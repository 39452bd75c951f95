-- What is added so far: the ranges that the loop has passed.
use Rattle.std.proofs.Common.{◌≡◌, ◌++◌, take}
use Rattle.std.specs.List.{flat_map}
use Rattle.rule_writer.specs.Canonical.{range_text}
use Rattle.rule_writer.proofs.writer.put_class.Given as goal

abbrev pub invariant-loop-range : goal.invariant-loop-range
invariant-loop-range l = l.text.items ≡ l.initial.text.items ++ flat_map range_text (take l.range-index l.class.ranges)
