use Rattle.std.proofs.Common.{arith, ap, ◌∙◌, sym}
use Rattle.std.proofs.lemmas.List.{length-map, take-map}
use Rattle.mediation.specs.Deeds.{policy_after}
use Rattle.mediation.specs.PolicyChanges.{deed_of}
use Rattle.justification.proofs.publication.published_at.Goals as goal

pub returns : goal.returns
returns c = (
  omega (arith, length-map c.args.changes.now deed_of),
  ap (λ deeds. policy_after deeds c.args.name.now) (take-map deed_of c.args.version c.args.changes.now) ∙ sym c.published.ensures,
)
