use Rattle.std.proofs.Common.{rules, ◌≡◌, ◌+◌}
use Rattle.profile_registry.specs.inner.Contents.{contents_of, with_profiles}
use Rattle.mediation.specs.PolicyChanges.{deed_of}
use Rattle.profile_registry.specs.inner.Names.{profiles_after}
use Rattle.profile_registry.proofs.absorption.StoreAbsorbPolicyChange.absorb_first.Goals as goal

pub returns-clause-absorbed : goal.returns-clause-absorbed
returns-clause-absorbed c =
    let old = contents_of c.args.self.now in
    let version : c.in_ok-version.version ≡ old.version + 1 = search rules in
    let changed : contents_of c.change.new.self ≡ with_profiles old (profiles_after old.profiles (deed_of c.args.operation.now)) =
    c.in_ok-change.ensures.ok in
    λ i. record { version = version i; profiles = (changed i).profiles }
