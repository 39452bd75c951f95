-- What is left to add, from here: the lines of the rules that the loop has not reached.
use Rattle.std.proofs.Common.{◌≡◌, ◌++◌, map, drop}
use Rattle.std.specs.List.{flat_map}
use Rattle.rule_writer.specs.Canonical.{rule_line}
use Rattle.rule_profile.specs.Profile.{rule_value}
use Rattle.rule_writer.proofs.writer.write.Given as goal

abbrev pub invariant-loop-rule : goal.invariant-loop-rule
invariant-loop-rule l =
    l.text.items ++ flat_map rule_line (map rule_value (drop l.rule-index l.rule-items))
    ≡ l.initial.text.items ++ flat_map rule_line (map rule_value l.rule-items)
