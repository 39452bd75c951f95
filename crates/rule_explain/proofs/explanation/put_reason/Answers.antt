use Rattle.std.proofs.Common.{◌≡◌, ◌++◌, ℕ, List, append_assoc}
use Rattle.std.specs.Prelude.{codes}
use Rattle.std.proofs.lemmas.Result.{IfOk-weaker}
use Rattle.rule_profile.specs.declared.profile.Span.{Span}
use Rattle.rule_profile.specs.Profile.{RuleValue, profile_value}
use Rattle.rule_profile.specs.RuleSpans.{profile_spans}
use Rattle.rule_explain.specs.declared.reason.Reason.{Reason}
use Rattle.rule_explain.specs.declared.reason.Reason.TheVariants.{Allowed, Denied}
use Rattle.rule_explain.specs.Explanations.{reason_text, rule_told}
use Rattle.rule_explain.proofs.explanation.put_reason.Goals as goal

allowed : (old middle new text : List ℕ) (rules same : List RuleValue) (spans there : List Span) (n : ℕ) (reason : Reason) →
    middle ≡ old ++ codes "allowed by " → new ≡ middle ++ rule_told text same there n → same ≡ rules → there ≡ spans
    → reason ≡ Allowed n → new ≡ old ++ reason_text text rules spans reason
allowed old middle new text rules same spans there n reason e1 e2 e3 e4 e5 =
    rw (e5, e2, e1, e3, e4) (append_assoc old (codes "allowed by ") (rule_told text rules spans n))

denied : (old middle new text : List ℕ) (rules same : List RuleValue) (spans there : List Span) (n : ℕ) (reason : Reason) →
    middle ≡ old ++ codes "denied by " → new ≡ middle ++ rule_told text same there n → same ≡ rules → there ≡ spans
    → reason ≡ Denied n → new ≡ old ++ reason_text text rules spans reason
denied old middle new text rules same spans there n reason e1 e2 e3 e4 e5 =
    rw (e5, e2, e1, e3, e4) (append_assoc old (codes "denied by ") (rule_told text rules spans n))

pub returns-in_ok-put-in-Allowed : goal.returns-in_ok-put-in-Allowed
returns-in_ok-put-in-Allowed c =
    IfOk-weaker c.put_rule.result _ _
    (λ _ h. allowed c.args.lines.now.items c.put.new.lines.items c.put_rule.new.lines.items c.args.text.now
    (profile_value c.args.profile.now).rules _ (profile_spans c.args.profile.now) _ c.in-Allowed.rule c.args.reason
    c.in_ok-put-in-Allowed.ensures h c.rules.ensures.rules c.rules.ensures.spans c.in-Allowed.is) c.put_rule.ensures

pub returns-in_ok-put-in-Denied : goal.returns-in_ok-put-in-Denied
returns-in_ok-put-in-Denied c =
    IfOk-weaker c.put_rule-in-Denied.result _ _
    (λ _ h. denied c.args.lines.now.items c.put-in-Denied.new.lines.items c.put_rule-in-Denied.new.lines.items c.args.text.now
    (profile_value c.args.profile.now).rules _ (profile_spans c.args.profile.now) _ c.in-Denied.rule c.args.reason
    c.in_ok-put-in-Denied.ensures h c.rules-in-Denied.ensures.rules c.rules-in-Denied.ensures.spans c.in-Denied.is)
    c.put_rule-in-Denied.ensures
