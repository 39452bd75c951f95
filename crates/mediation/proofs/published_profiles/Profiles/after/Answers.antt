use Rattle.mediation.specs.inner.Profiles.{policy_in}
use Rattle.mediation.proofs.MapSteps.{after_more}
use Rattle.mediation.proofs.published_profiles.Profiles.after.Goals as goal

pub loop-change-preserved : goal.loop-change-preserved
loop-change-preserved c =
    after_more (policy_in c.args.self.now) (policy_in c.loop-change.after) (policy_in c.make.new.self) c.args.changes.now
    c.loop-change.change-index c.change-item.result c.loop-change-test.true c.change-item.is c.loop-change.invariant c.in_ok-make.ensures
