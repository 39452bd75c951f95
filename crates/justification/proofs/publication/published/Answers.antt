use Rattle.std.proofs.Common.{map, sym, ◌∙◌}
use Rattle.mediation.specs.Deeds.{policy_after}
use Rattle.mediation.specs.PolicyChanges.{deed_of}
use Rattle.justification.proofs.Lookups.{last_deed}
use Rattle.justification.proofs.publication.published.Goals as goal

pub returns-in-Some-published_by : goal.returns-in-Some-published_by
returns-in-Some-published_by c =
    let before = c.in-Some.before.now in
    sym (sym c.loop-change.invariant ∙ last_deed c.loop-change.rest.now before c.in-Some.change.now c.args.name.now
    c.in-Some.ensures.cases.0
    ∙ c.in-Some-published_by.ensures (policy_after (map deed_of before)))

pub loop-change-preserved : goal.loop-change-preserved
loop-change-preserved c =
    let before = c.in-Some.before.now in
    sym (c.in_default-published_by.ensures (policy_after (map deed_of before)))
    ∙ sym (last_deed c.loop-change.rest.now before c.in-Some.change.now c.args.name.now c.in-Some.ensures.cases.0)
    ∙ c.loop-change.invariant
