-- Each rule of a profile is one.
use Rattle.std.proofs.Common.{◌≡◌, ◌-◌, length, ap, sym, ◌∙◌, arith}
use Rattle.std.proofs.lemmas.List.{length-map}
use Rattle.std.specs.List.{list_all}
use Rattle.rule_profile.specs.Profile.{rule_value, profile_value}
use Rattle.rule_profile.specs.Readable.{is_rule}
use Rattle.derived_profiles.proofs.RuleLaws.{rule_is, rules_are}
use Rattle.derived_profiles.proofs.profiles.rule_at.Goals as goal

pub returns-clause-rule : goal.returns-clause-rule
returns-clause-rule c =
    let p = profile_value c.args.profile.now in
    let few : length c.rules.result.now ≡ length p.rules =
    sym (length-map c.rules.result.now rule_value) ∙ ap length c.rules.ensures.rules in
    rule_is c.rules.result.now (c.args.number - 1) c.index-rules-number.result (omega (arith, c.requires.from, c.requires.to, few))
    c.index-rules-number.is (ap (list_all is_rule) c.rules.ensures.rules ∙ rules_are p c.args.profile.now.readable)
