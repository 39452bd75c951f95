-- The outcome of publishing one more change of the policy.
pub use Rattle.names.specs.Limits.{most_changes}
use Rattle.std.specs.Prelude.{◌≡◌, ◌⊎◌, ◌+◌, ◌<◌, ◌≤◌, ℕ, [], ◌∷◌, ◌++◌, length}
use Rattle.mediation.specs.Deeds.{Deed}
use Rattle.names.specs.declared.errors.Errno.{Errno}
use Rattle.names.specs.declared.errors.Errno.TheVariants.{ENOMEM, EOVERFLOW}
use Rattle.profile_registry.specs.Views.{Publishing, changes_of}

-- what was staged is published, and the change after it, as the version says
abbrev pub IsPublished : Publishing → Deed → Publishing → ℕ → Type 0
IsPublished before deed now version = (changes_of before < most_changes)
    × (now ≡ record { published = before.published ++ (before.staged ++ deed ∷ []); staged = [] })
    × (version ≡ length now.published)

-- nothing is published: no more changes can be counted, and all is as it was; or memory was refused, and the change may be staged
abbrev pub IsUnpublished : Publishing → Deed → Publishing → Errno → Type 0
IsUnpublished before deed now errno =
    ((errno ≡ EOVERFLOW) × (most_changes ≤ changes_of before) × (now ≡ before))
    ⊎ ((errno ≡ ENOMEM) × (changes_of before < most_changes)
    × ((now ≡ before) ⊎ (now ≡ record { published = before.published; staged = before.staged ++ deed ∷ [] })))
