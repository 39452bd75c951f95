use Rattle.std.proofs.Common.{None, ◌≡◌, ◌∙◌, ◌++◌, arith, ap, sym, map, length, length-append}
use Rattle.std.proofs.lemmas.List.{length-map, map-append}
use Rattle.mediation.specs.Deeds.{after_deeds, policy_after}
use Rattle.mediation.specs.PolicyChanges.{deed_of}
use Rattle.mediation.specs.laws.DeedLaws.{after_both}
use Rattle.mediation.proofs.policy.Policy.publish.Goals as goal

pub invariant_of-self : goal.invariant_of-self
invariant_of-self c =
    let old = c.self.inside.changes.events in
    let before = map deed_of old in
    let deeds = map deed_of c.args.changes.now in
    let more : map deed_of c.and_all-self-inside.result.events ≡ before ++ deeds = ap (map deed_of) c.and_all-self-inside.ensures
    ∙ map-append deed_of old c.args.changes.now in
    let counted = c.self.invariant.counted in
    record {
      published = c.in-Ok.ensures ∙ ap (λ p. after_deeds p deeds) c.self.invariant.published
          ∙ sym (after_both (λ name. None) before deeds) ∙ ap policy_after (sym more);
      counted = omega (arith, counted, ap length more, length-append before deeds, length-map c.args.changes.now deed_of);
    }
