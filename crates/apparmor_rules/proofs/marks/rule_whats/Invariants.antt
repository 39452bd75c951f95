-- What is reported about the parts before, and about those that are left, is what is reported about all.
use Rattle.std.proofs.Common.{◌≡◌, ◌++◌, drop}
use Rattle.apparmor_rules.specs.RuleParts.{rule_whats}
use Rattle.apparmor_rules.proofs.marks.rule_whats.Given as goal

abbrev pub invariant-loop-part : goal.invariant-loop-part
invariant-loop-part l = l.whats.items ++ rule_whats l.marks (drop l.part-index l.parts) ≡ rule_whats l.marks l.parts
