-- What is left of the rules, from here.
use Rattle.std.proofs.Common.{◌≡◌, drop, map}
use Rattle.std.specs.List.{list_all}
use Rattle.rule_profile.specs.Profile.{rule_value}
use Rattle.rule_profile.specs.Readable.{is_rule}
use Rattle.rule_making.proofs.profiles.are_rules.Given as goal

abbrev pub invariant-loop-rule : goal.invariant-loop-rule
invariant-loop-rule l =
    list_all is_rule (map rule_value (drop l.rule-index l.rules)) ≡ list_all is_rule (map rule_value l.rules)
