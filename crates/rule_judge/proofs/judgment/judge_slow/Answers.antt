-- Each rule moves the verdict on. What is computed is the same verdict, since only one is right.
use Rattle.std.proofs.Common.{◌≡◌, ◌↔◌, ◌+◌, ◌≤◌, ℕ, List, IsTrue, false, map, length, sym, ap, ◌∙◌, arith, true≢false}
use Rattle.std.proofs.lemmas.List.{length-map}
use Rattle.names.specs.declared.permissions.Permission.{Permission}
use Rattle.names.specs.declared.permissions.Perms.{Perms}
use Rattle.std.specs.Prelude.{◌&&◌, not}
use Rattle.names.specs.Permissions.{has, held, set_of}
use Rattle.rule_profile.specs.Profile.{RuleValue, rule_value, profile_value}
use Rattle.rule_globs.specs.PlainVerdict.{verdict}
use Rattle.rule_globs.specs.inner.RuleHits.{HitsSome}
use Rattle.rule_globs.specs.Verdict.{IsRuleAt, IsVerdict}
use Rattle.rule_profile.specs.declared.profile.Rule.{Rule}
use Rattle.names.specs.declared.verdict.Verdict.TheVariants.{Denied, NoRule, Allowed}
use Rattle.names.specs.laws.PermissionSets.{some_member}
use Rattle.rule_judge.proofs.VerdictSteps.{IsQuiet, IsMissingAfter, rule_at, quiet-skip, quiet-allow, missing-skip, missing-allow, denied}
use Rattle.rule_judge.proofs.VerdictSteps.{at_end-quiet, at_end-missing}
use Rattle.rule_judge.proofs.judgment.judge_slow.Goals as goal
use Rattle.rule_judge.proofs.judgment.judge_slow.Goals.{then-hits+in-Allow, else-hits}

at_end : (rules : List Rule) (values : List RuleValue) (i : ℕ) → map rule_value rules ≡ values → length rules ≤ i → length values ≤ i
at_end rules values i same le = omega (arith, ap length same, length-map rules rule_value)

all_allowed : (rules : List RuleValue) (name : List ℕ) (ask missing : Perms) (i : ℕ) → length rules ≤ i → IsQuiet rules name ask i →
    ((p : Permission) → IsTrue (has missing p) ↔ IsMissingAfter rules name ask i p) →
    ((p : Permission) → has missing p ≡ false) → IsVerdict rules name ask Allowed
all_allowed rules name ask missing i le quiet left nothing = (
  at_end-quiet rules name ask i le quiet,
  λ p h. true≢false (sym ((at_end-missing rules name ask i p (has missing p) le (left p)).1 h) ∙ nothing p),
)

some_missing : (rules : List RuleValue) (name : List ℕ) (ask missing : Perms) (i : ℕ) → length rules ≤ i → IsQuiet rules name ask i →
    ((p : Permission) → IsTrue (has missing p) ↔ IsMissingAfter rules name ask i p) →
    (((p : Permission) → has missing p ≡ false) → ⊥) → IsVerdict rules name ask (NoRule missing)
some_missing rules name ask missing i le quiet left something = (
  at_end-quiet rules name ask i le quiet,
  some_member missing something,
  λ p. at_end-missing rules name ask i p (has missing p) le (left p),
)

pub returns-in-Deny : goal.returns-in-Deny
returns-in-Deny c =
    let values = (profile_value c.args.profile.now).rules in
    let at : IsRuleAt values (c.loop-i.i + 1) (rule_value c.rule-item.result) =
    rule_at c.rules-rule-items.result.now values c.loop-i.i c.rule-item.result c.loop-i-test.true c.rule-item.is
    c.rules-rule-items.ensures.rules in
    let right = denied values c.args.name.now c.args.ask c.loop-i.i (rule_value c.rule-item.result) at
    (sym c.kind.ensures ∙ c.in-Deny.is) (c.hits.ensures.0 c.if-hits.true) c.loop-i.invariant.quiet in
    record {
      verdict = right;
      plain = c.one_verdict_is_right.ensures.only values c.args.name.now c.args.ask (Denied (c.loop-i.i + 1))
          (verdict values c.args.name.now c.args.ask) right
          (c.one_verdict_is_right.ensures.some values c.args.name.now c.args.ask);
    }

pub loop-i-preserved : goal.loop-i-preserved
loop-i-preserved c =
    let values = (profile_value c.args.profile.now).rules in
    let rule = rule_value c.rule-item.result in
    let at : IsRuleAt values (c.loop-i.i + 1) rule =
    rule_at c.rules-rule-items.result.now values c.loop-i.i c.rule-item.result c.loop-i-test.true c.rule-item.is
    c.rules-rule-items.ensures.rules in
    elim c.if-hits.branch [
      | then-hits+in-Allow w ↦
          let some = c.hits.ensures.0 w.if-hits.true in
          record {
            quiet = quiet-allow values c.args.name.now c.args.ask c.loop-i.i rule at (sym w.kind.ensures ∙ w.in-Allow.is)
                c.loop-i.invariant.quiet;
            left = λ p. missing-allow values c.args.name.now c.args.ask c.loop-i.i rule c.loop-i.missing c.if-hits.missing p at
                (sym w.kind.ensures ∙ w.in-Allow.is) some
                (w.missing-is ∙ w.without-missing.ensures ∙ ap (λ perms. set_of (λ q. has c.loop-i.missing q && not (has perms q)))
                (w.held.ensures ∙ ap held w.perms.ensures)) (c.loop-i.invariant.left p);
          }
      | else-hits w ↦
          let none = λ (h : HitsSome rule c.args.name.now c.args.ask). true≢false (sym (c.hits.ensures.1 h) ∙ w.if-hits.false) in
          record {
            quiet = quiet-skip values c.args.name.now c.args.ask c.loop-i.i rule at none c.loop-i.invariant.quiet;
            left = λ p. missing-skip values c.args.name.now c.args.ask c.loop-i.i rule c.loop-i.missing c.if-hits.missing p at none
                w.missing-is (c.loop-i.invariant.left p);
          }
    ]

pub returns-then-is_empty : goal.returns-then-is_empty
returns-then-is_empty c =
    let values = (profile_value c.args.profile.now).rules in
    let right = all_allowed values c.args.name.now c.args.ask c.loop-i.missing c.loop-i.i
    (at_end c.rules-rule-items.result.now values c.loop-i.i c.rules-rule-items.ensures.rules c.loop-i-test.false)
    c.loop-i.invariant.quiet c.loop-i.invariant.left (c.is_empty.ensures.0 c.if-is_empty.true) in
    record {
      verdict = right;
      plain = c.one_verdict_is_right.ensures.only values c.args.name.now c.args.ask Allowed
          (verdict values c.args.name.now c.args.ask) right
          (c.one_verdict_is_right.ensures.some values c.args.name.now c.args.ask);
    }

pub returns-else-is_empty : goal.returns-else-is_empty
returns-else-is_empty c =
    let values = (profile_value c.args.profile.now).rules in
    let right = some_missing values c.args.name.now c.args.ask c.loop-i.missing c.loop-i.i
    (at_end c.rules-rule-items.result.now values c.loop-i.i c.rules-rule-items.ensures.rules c.loop-i-test.false)
    c.loop-i.invariant.quiet c.loop-i.invariant.left
    (λ nothing. true≢false (sym (c.is_empty.ensures.1 nothing) ∙ c.if-is_empty.false)) in
    record {
      verdict = right;
      plain = c.one_verdict_is_right.ensures.only values c.args.name.now c.args.ask (NoRule c.loop-i.missing)
          (verdict values c.args.name.now c.args.ask) right
          (c.one_verdict_is_right.ensures.some values c.args.name.now c.args.ask);
    }
