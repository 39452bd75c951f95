-- The parts of one more rule.
use Rattle.std.proofs.Common.{◌≡◌, ◌∙◌, ◌<◌, List, arith, sym, ap, get_or, length, refl}
use Rattle.std.proofs.Math.ListN.{get_or-map}
use Rattle.std.proofs.lemmas.List.{length-map}
use Rattle.rule_globs.specs.Rules.{RuleValue}
use Rattle.rule_profile.specs.Profile.{profile_value, rule_value}
use Rattle.rule_profile.specs.declared.profile.Rule.{Rule}
use Rattle.trace_lint.proofs.RuleParts.{rule_more}
use Rattle.trace_lint.proofs.parts.idle_parts.Goals as goal

pub loop-index-preserved : goal.loop-index-preserved
loop-index-preserved c =
    let items = c.rules-rule-items.result.now in
    let rules : List RuleValue = (profile_value c.args.profile.now).rules in
    let same = c.rules-rule-items.ensures.rules in
    let lt : c.loop-index.index < length rules = omega (
      arith,
      c.loop-index-test.true,
      ap (λ (z : List RuleValue). length z) same,
      length-map items rule_value,
    ) in
    let perms : c.perms.result ≡ (get_or rules c.loop-index.index (rule_value c.rule-item.result)).perms =
    c.perms.ensures ∙ ap (λ (r : Rule). (rule_value r).perms) c.rule-item.is
    ∙ ap (λ (r : RuleValue). r.perms) (sym (get_or-map rule_value items c.loop-index.index c.rule-item.result)
    ∙ ap (λ (z : List RuleValue). get_or z c.loop-index.index (rule_value c.rule-item.result)) same) in
    rule_more rules c.args.decided.now c.loop-index.index _ c.perms.result _ _ (rule_value c.rule-item.result) c.loop-index.parts.items
    c.put_parts.new.parts.items lt (omega (arith, lt, c.requires)) refl perms refl c.loop-index.invariant c.in_ok-put_parts.ensures
