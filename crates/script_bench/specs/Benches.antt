-- What contracts see of a bench.
use Rattle.std.specs.Prelude.{◌≡◌, ◌≢◌, ◌⊎◌, ℕ, List, Bool, [], ◌∷◌, ◌++◌, length}
use Rattle.dentry_cache.specs.Models.{Held}
use Rattle.mediation.specs.Deeds.{Deed}
use Rattle.mediation.specs.Links.{LinkAnswered, IsMade}
use Rattle.path_session.specs.Sessions.{Sitting}
use Rattle.path_session.specs.AtHand.{IsLetInWith}
use Rattle.profile_registry.specs.Views.{Publishing, IsUnansweredWith}

-- its keeper, its publisher, its session, and whether the last open or link was answered
pub record Benching : Type 0 where
  pub keeper : Held
  pub publisher : Publishing
  pub session : Sitting
  pub has_answered : Bool

-- apart from what was published and staged
abbrev pub IsSameBut : Benching → Benching → Type 0
IsSameBut before now =
    (now.keeper ≡ before.keeper) × (now.session ≡ before.session) × (now.has_answered ≡ before.has_answered)

-- the change was published, after those that were staged, and this is the version that it made
abbrev pub HasPublished : Publishing → Publishing → Deed → ℕ → Type 0
HasPublished before now deed version =
    (now ≡ record { published = before.published ++ before.staged ++ deed ∷ []; staged = [] }) × (version ≡ length now.published)

-- memory was refused: nothing was published, and the change is staged after the others or it isn't
abbrev pub IsKeptBack : Publishing → Publishing → Deed → Type 0
IsKeptBack before now deed =
    (now ≡ before) ⊎ (now ≡ record { published = before.published; staged = before.staged ++ deed ∷ [] })

-- Why an open by the profile of this name is out of memory: there was none for a copy of the name, which is another one than before;
-- or the reader wasn't answered. The same of a link, or it would be made.
abbrev pub IsNotOpened : List Deed → Sitting → Sitting → List ℕ → Type 0
IsNotOpened published before now name =
    ((now ≡ before) × (before.profile ≢ name)) ⊎ IsUnansweredWith published before.reading now.reading name

abbrev pub IsNotLinked : List Deed → Sitting → Sitting → List ℕ → LinkAnswered → Type 0
IsNotLinked published before now name answered =
    IsNotOpened published before now name ⊎ (IsLetInWith published before now × IsMade answered)
