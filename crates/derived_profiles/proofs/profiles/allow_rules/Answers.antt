-- The allow rules of a profile make one.
use Rattle.std.proofs.Common.{◌≡◌, map, filter, ap, ◌∙◌}
use Rattle.rule_profile.specs.Profile.{rule_value, profile_value}
use Rattle.derived_profiles.specs.Derived.{is_allow}
use Rattle.derived_profiles.proofs.RuleLaws.{allow_rules_is}
use Rattle.derived_profiles.proofs.profiles.allow_rules.Goals as goal

pub profile_with-requires : goal.profile_with-requires
profile_with-requires c =
    let p = profile_value c.args.profile.now in
    let named : c.name.result.now ≡ p.name = c.name.ensures in
    let rules : map rule_value c.in_ok-rules.rules.items ≡ filter is_allow p.rules =
    c.in_ok-rules.ensures ∙ ap (filter is_allow) c.rules.ensures.rules in
    rw (named, rules) (allow_rules_is p c.args.profile.now.readable)
