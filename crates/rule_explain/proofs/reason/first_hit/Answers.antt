use Rattle.std.proofs.Common.{◌≡◌, ◌<◌, ◌+◌, Bool, ℕ, List, Option, length, map, get_or, sym, ap, ◌∙◌, arith}
use Rattle.std.specs.Prelude.{option_map}
use Rattle.std.specs.List.{position}
use Rattle.std.proofs.lemmas.List.{length-map}
use Rattle.rule_profile.specs.Profile.{rule_value}
use Rattle.rule_profile.specs.declared.profile.Rule.{Rule}
use Rattle.rule_globs.specs.Rules.{RuleValue}
use Rattle.rule_explain.specs.Reasons.{hits}
use Rattle.rule_explain.proofs.FirstHits.{nothing, none_yet, value_at, one_more, found, absent}
use Rattle.rule_explain.proofs.reason.first_hit.Goals as goal

pub loop-i-init : goal.loop-i-init
loop-i-init c = none_yet (hits c.args.kind c.args.permission c.args.name.now) (map rule_value c.rules-rule-items.result.now)

-- the test of the current rule
tested : (test : RuleValue → Bool) (rules : List Rule) (i : ℕ) (rule : Rule) (b : Bool) → i < length rules → rule ≡ get_or rules i rule →
    b ≡ test (rule_value rule) → test (get_or (map rule_value rules) i nothing) ≡ b
tested test rules i rule b lt is e = ap test (value_at rules i rule lt is) ∙ sym e

pub returns-then-hits : goal.returns-then-hits
returns-then-hits c =
    let test = hits c.args.kind c.args.permission c.args.name.now in
    let here = tested test c.rules-rule-items.result.now c.loop-i.i c.rule-item.result c.hits.result c.loop-i-test.true c.rule-item.is
    c.hits.ensures ∙ c.if-hits.true in
    let first = found test (map rule_value c.rules-rule-items.result.now) c.loop-i.i
    (omega (arith, length-map c.rules-rule-items.result.now rule_value, c.loop-i-test.true)) c.loop-i.invariant here in
    sym (ap (λ (o : Option ℕ). option_map (λ before. before + 1) o) (ap (position test) (sym c.rules-rule-items.ensures.rules) ∙ first))

pub loop-i-preserved : goal.loop-i-preserved
loop-i-preserved c =
    let test = hits c.args.kind c.args.permission c.args.name.now in
    let here = tested test c.rules-rule-items.result.now c.loop-i.i c.rule-item.result c.hits.result c.loop-i-test.true c.rule-item.is
    c.hits.ensures ∙ c.if-hits.false in
    one_more test (map rule_value c.rules-rule-items.result.now) c.loop-i.i c.loop-i.invariant here

pub returns : goal.returns
returns c =
    let test = hits c.args.kind c.args.permission c.args.name.now in
    let none = absent test (map rule_value c.rules-rule-items.result.now) c.loop-i.i
    (omega (arith, length-map c.rules-rule-items.result.now rule_value, c.loop-i-test.false)) c.loop-i.invariant in
    sym (ap (λ (o : Option ℕ). option_map (λ before. before + 1) o) (ap (position test) (sym c.rules-rule-items.ensures.rules) ∙ none))
