-- The rule with the number makes a profile, as an allow rule.
use Rattle.std.proofs.Common.{◌≡◌, ◌∷◌, [], map, ap, ◌∙◌, arith}
use Rattle.std.proofs.lemmas.Result.{IfOk-weaker}
use Rattle.rule_profile.specs.Profile.{rule_value, profile_value}
use Rattle.derived_profiles.specs.Derived.{allowing}
use Rattle.derived_profiles.proofs.RuleLaws.{alone_is}
use Rattle.derived_profiles.proofs.profiles.alone.Goals as goal

pub profile_with-requires : goal.profile_with-requires
profile_with-requires c =
    let p = profile_value c.args.profile.now in
    let rule = rule_value c.rule_at.result.now in
    let named : c.name.result.now ≡ p.name = c.name.ensures in
    let rules : map rule_value c.in_ok-rules.rules.items ≡ allowing rule ∷ [] =
    ap (map rule_value) c.in_ok-rules.ensures ∙ ap (λ r. r ∷ []) c.in_ok-rule.ensures in
    rw (named, rules) (alone_is p rule c.args.profile.now.readable (omega (arith, c.requires.from, c.requires.to)) c.rule_at.ensures.rule)

pub returns : goal.returns
returns c =
    let p = profile_value c.args.profile.now in
    let rule = rule_value c.rule_at.result.now in
    let rules : map rule_value c.in_ok-rules.rules.items ≡ allowing rule ∷ [] =
    ap (map rule_value) c.in_ok-rules.ensures ∙ ap (λ r. r ∷ []) c.in_ok-rule.ensures in
    IfOk-weaker c.profile_with.result _ _
    (λ derived is. (rule, c.rule_at.ensures.at, is ∙ cc (c.name.ensures, rules))) c.profile_with.ensures
