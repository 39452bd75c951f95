use Rattle.std.proofs.lemmas.Result.{IfOk-weaker}
use Rattle.rule_profile.specs.Profile.{profile_value}
use Rattle.trace_test.proofs.ReasonParts.{allowed_told, denied_told}
use Rattle.trace_test.proofs.reasons.put_reason.Goals as goal

pub returns-in_ok-put-in-Allowed : goal.returns-in_ok-put-in-Allowed
returns-in_ok-put-in-Allowed c =
    IfOk-weaker c.put_rule.result _ _
    (λ _ h. allowed_told c.args.line.now.items c.put.new.line.items c.put_rule.new.line.items
    (profile_value c.args.profile.now).rules _ c.in-Allowed.rule c.args.reason
    c.in_ok-put-in-Allowed.ensures h c.rules.ensures.rules c.in-Allowed.is) c.put_rule.ensures

pub returns-in_ok-put-in-Denied : goal.returns-in_ok-put-in-Denied
returns-in_ok-put-in-Denied c =
    IfOk-weaker c.put_rule-in-Denied.result _ _
    (λ _ h. denied_told c.args.line.now.items c.put-in-Denied.new.line.items c.put_rule-in-Denied.new.line.items
    (profile_value c.args.profile.now).rules _ c.in-Denied.rule c.args.reason
    c.in_ok-put-in-Denied.ensures h c.rules-in-Denied.ensures.rules c.in-Denied.is) c.put_rule-in-Denied.ensures
