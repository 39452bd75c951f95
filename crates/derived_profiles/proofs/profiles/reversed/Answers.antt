-- The rules in reverse make a profile.
use Rattle.std.proofs.Common.{◌≡◌, map, reverse, ap, ◌∙◌}
use Rattle.std.proofs.lemmas.Result.{IfOk-weaker}
use Rattle.rule_profile.specs.Profile.{rule_value, profile_value}
use Rattle.derived_profiles.proofs.RuleLaws.{map-reverse, reversed_is}
use Rattle.derived_profiles.proofs.profiles.reversed.Goals as goal

pub profile_with-requires : goal.profile_with-requires
profile_with-requires c =
    let p = profile_value c.args.profile.now in
    let named : c.name.result.now ≡ p.name = c.name.ensures in
    let rules : map rule_value c.reverse.new.self.items ≡ reverse p.rules =
    ap (map rule_value) c.reverse.ensures.items ∙ map-reverse rule_value c.in_ok-rules.rules.items
    ∙ ap reverse (c.in_ok-rules.ensures ∙ c.rules.ensures.rules) in
    rw (named, rules) (reversed_is p c.args.profile.now.readable)

pub returns : goal.returns
returns c =
    let p = profile_value c.args.profile.now in
    let rules : map rule_value c.reverse.new.self.items ≡ reverse p.rules =
    ap (map rule_value) c.reverse.ensures.items ∙ map-reverse rule_value c.in_ok-rules.rules.items
    ∙ ap reverse (c.in_ok-rules.ensures ∙ c.rules.ensures.rules) in
    IfOk-weaker c.profile_with.result _ _ (λ derived is. is ∙ cc (c.name.ensures, rules)) c.profile_with.ensures
