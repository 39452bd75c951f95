use Rattle.std.proofs.Common.{◌≡◌, ◌+◌, List, IsTrue, map, get_or, sym, ap, ◌∙◌, subst, true≢false, arith}
use Rattle.std.proofs.lemmas.List.{length-map}
use Rattle.names.specs.declared.permissions.Perms.{Perms}
use Rattle.names.specs.Permissions.{has, held}
use Rattle.rule_globs.specs.PlainVerdict.{takes}
use Rattle.rule_globs.specs.Rules.{RuleValue, holds, pattern}
use Rattle.rule_profile.specs.Profile.{rule_value}
use Rattle.rule_explain.specs.Reasons.{reason}
use Rattle.rule_explain.specs.declared.hits.Firsts.{Firsts}
use Rattle.rule_explain.specs.inner.Firsts.{hits_of}
use Rattle.rule_explain.proofs.FirstHits.{nothing, value_at}
use Rattle.rule_explain.proofs.SoFar.{AreSoFar, none_more, one_hit, reason_so_far}
use Rattle.rule_explain.proofs.hits.firsts_of.Goals as goal
use Rattle.rule_explain.proofs.hits.firsts_of.Goals.{then-concerns, else-concerns}

pub loop-i-preserved : goal.loop-i-preserved
loop-i-preserved c = λ p asked.
    let items = c.rules-rule-items.result.now in
    let rules : List RuleValue = map rule_value items in
    let name = c.args.name.now in
    let i = c.loop-i.i in
    let before = hits_of c.loop-i.firsts p in
    let at : get_or rules i nothing ≡ rule_value c.rule-item.result = value_at items i c.rule-item.result c.loop-i-test.true
    c.rule-item.is in
    elim c.if-concerns.branch [
      | then-concerns w ↦
          let holding = ap (λ (r : RuleValue). holds r p) at
          ∙ ap (λ (s : Perms). has s p) (sym (w.held.ensures ∙ ap held w.perms.ensures)) in
          let taking = subst (λ (r : RuleValue). IsTrue (takes (pattern r) name)) (sym at) (c.concerns.ensures.0 w.if-concerns.true).1 in
          subst (AreSoFar rules name p (i + 1)) (sym (ap (λ (f : Firsts). hits_of f p) w.firsts-is ∙ w.with-firsts.ensures p))
          (one_hit rules name p (has w.held.result p) w.kind.result i before
          (omega (arith, length-map items rule_value, c.loop-i-test.true)) (c.loop-i.invariant p asked)
          (ap (λ (r : RuleValue). r.kind) at ∙ sym w.kind.ensures) holding taking)
      | else-concerns w ↦
          subst (AreSoFar rules name p (i + 1)) (ap (λ (f : Firsts). hits_of f p) (sym w.firsts-is))
          (none_more rules name p i before (c.loop-i.invariant p asked) (λ holding taking.
          let holds = subst (λ (r : RuleValue). IsTrue (holds r p)) at holding in
          let takes = subst (λ (r : RuleValue). IsTrue (takes (pattern r) name)) at taking in
          true≢false (sym (c.concerns.ensures.1 ((p, asked, holds), takes)) ∙ w.if-concerns.false)))
    ]

pub returns : goal.returns
returns c = λ p asked.
    let items = c.rules-rule-items.result.now in
    reason_so_far (map rule_value items) c.args.name.now p c.loop-i.i (hits_of c.loop-i.firsts p)
    (omega (arith, length-map items rule_value, c.loop-i-test.false)) (c.loop-i.invariant p asked)
    ∙ ap (λ (rs : List RuleValue). reason rs c.args.name.now p) c.rules-rule-items.ensures.rules
