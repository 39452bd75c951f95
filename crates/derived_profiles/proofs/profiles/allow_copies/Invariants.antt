-- What is copied so far, and what is left to copy.
use Rattle.std.proofs.Common.{◌≡◌, ◌++◌, drop, filter, map}
use Rattle.rule_profile.specs.Profile.{rule_value}
use Rattle.derived_profiles.specs.Derived.{is_allow}
use Rattle.derived_profiles.proofs.profiles.allow_copies.Given as goal

abbrev pub invariant-loop-rule : goal.invariant-loop-rule
invariant-loop-rule l =
    map rule_value l.copies.items ++ filter is_allow (map rule_value (drop l.rule-index l.rules))
    ≡ filter is_allow (map rule_value l.rules)
