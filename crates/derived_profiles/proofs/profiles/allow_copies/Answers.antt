-- Each rule is one.
use Rattle.derived_profiles.proofs.RuleLaws.{rule_is}
use Rattle.derived_profiles.proofs.profiles.allow_copies.Goals as goal

pub rule_copy-requires : goal.rule_copy-requires
rule_copy-requires c =
    rule_is c.args.rules.now c.loop-rule.rule-index c.rule-item.result c.loop-rule-test.true c.rule-item.is c.requires
