use Rattle.std.proofs.Common.{◌∙◌}
use Rattle.std.specs.FinMap.{insert}
use Rattle.mediation.specs.Profiles.{judge_of}
use Rattle.profile_registry.specs.inner.Contents.{contents_of, with_profiles}
use Rattle.profile_registry.proofs.StoreLookUps.{after_put}
use Rattle.profile_registry.proofs.store.Store.put.Goals as goal

pub returns-clause-ok : goal.returns-clause-ok
returns-clause-ok c =
    let old = contents_of c.args.self.now in
    let put = after_put c.in_ok-name.name c.in_ok-profile.profile c.args.self.now.profiles.entries c.insert.new.self.entries
    c.in_ok-insert.ensures.entries in
    λ i. with_profiles old ((put ∙ (λ j. insert old.profiles (c.in_ok-name.ensures.items j) (judge_of (c.in_ok-profile.ensures j)))) i)
