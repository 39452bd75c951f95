-- The profiles and the version, by the changes that were made.
use Rattle.std.specs.Prelude.{◌≡◌, ℕ, List, length}
use Rattle.mediation.specs.Deeds.{Deed, policy_after}
use Rattle.mediation.specs.declared.published_profiles.Profiles.{Profiles}
use Rattle.mediation.specs.inner.Profiles.{policy_in}

pub record Holds (profiles : Profiles) (version : ℕ) (deeds : List Deed) : Type 0 where
  pub published : policy_in profiles ≡ policy_after deeds
  pub counted : version ≡ length deeds
