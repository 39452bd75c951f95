use Rattle.mediation.proofs.MapSteps.{copied_says}
use Rattle.mediation.proofs.published_profiles.Profiles.copied.Goals as goal

pub returns : goal.returns
returns c = copied_says c.args.self.now (record { by_name = c.in_ok-clone.field-0 }) c.in_ok-clone.ensures.cases
