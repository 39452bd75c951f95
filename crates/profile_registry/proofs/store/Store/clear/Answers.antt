use Rattle.profile_registry.specs.inner.Contents.{contents_of, with_profiles}
use Rattle.profile_registry.proofs.StoreLookUps.{after_removal}
use Rattle.profile_registry.proofs.store.Store.clear.Goals as goal

pub returns : goal.returns
returns c =
    let removed = after_removal c.args.name.now c.args.self.now.profiles.entries c.remove.new.self.entries c.remove.ensures.entries
    c.remove.ensures.updates.1 in
    λ i. with_profiles (contents_of c.args.self.now) (removed i)
