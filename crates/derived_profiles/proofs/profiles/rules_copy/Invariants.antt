-- What is copied so far, and what is left to copy.
use Rattle.std.proofs.Common.{◌≡◌, ◌++◌, drop, map}
use Rattle.rule_profile.specs.Profile.{rule_value}
use Rattle.derived_profiles.proofs.profiles.rules_copy.Given as goal

abbrev pub invariant-loop-rule : goal.invariant-loop-rule
invariant-loop-rule l = map rule_value l.copies.items ++ map rule_value (drop l.rule-index l.rules) ≡ map rule_value l.rules
