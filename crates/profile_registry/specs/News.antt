-- What a reader answers to a caller that knows a version.
use Rattle.std.specs.Prelude.{◌≡◌, ◌≢◌, ℕ, Option, Some}
use Rattle.std.specs.Option.{option_map}
use Rattle.mediation.specs.Judge.{Judge}
use Rattle.mediation.specs.PolicyChanges.{judge_shared}
use Rattle.profile_registry.specs.declared.news.News.{News}
use Rattle.profile_registry.specs.declared.news.News.TheVariants.{Same, Profile}

-- nothing has changed exactly if the version is the known one; else it is what is published
abbrev pub IsNews : Option Judge → Option ℕ → ℕ → News → Type 0
IsNews published known version Same = known ≡ Some version
IsNews published known version (Profile profile) = (known ≢ Some version) × (option_map judge_shared profile ≡ published)
