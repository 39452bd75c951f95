-- What a session's calls say where the keeper is held exclusively, or keeper and publisher are. Opens concurrently with them cite
-- none of this.
use Rattle.std.specs.Prelude.{◌≡◌, ◌⊎◌, ◌+◌, ℕ, List}
use Rattle.dentry_cache.specs.Models.{Held}
use Rattle.mediation.specs.declared.answer.LinkAnswer.{LinkAnswer}
use Rattle.mediation.specs.declared.answer.LinkAnswer.TheVariants as link
use Rattle.mediation.specs.Deeds.{Deed}
use Rattle.mediation.specs.Links.{LinkAnswered, IsMade}
use Rattle.mediation.specs.Opens.{Answered, judged, failed, no_profile}
use Rattle.profile_registry.specs.Views.{IsUnanswered, IsUnansweredWith}
use Rattle.justification.specs.declared.answer.Answer.{Answer}
use Rattle.justification.specs.declared.answer.Answer.TheVariants.{Judged, Failed, NoProfile, Busy}
use Rattle.justification.specs.declared.answer.Answer.TheVariants as answer
use Rattle.path_session.specs.declared.unanswered.Unanswered.{Unanswered}
use Rattle.path_session.specs.declared.unanswered.Unanswered.TheVariants.{NoEntry, NoMemory}
use Rattle.path_session.specs.Sessions.{Sitting, counted}

-- with the keeper held exclusively, only a verdict may have been kept
abbrev pub MayCountKept : ℕ → ℕ → Answer → Type 0
MayCountKept kept kept_now (Judged verdict node tree policy) = (kept_now ≡ kept) ⊎ (kept_now ≡ counted kept)
MayCountKept kept kept_now (Failed errno tree) = kept_now ≡ kept
MayCountKept kept kept_now (NoProfile policy) = kept_now ≡ kept
MayCountKept kept kept_now (Busy began ended) = kept_now ≡ kept
MayCountKept kept kept_now answer.NoEntry = kept_now ≡ kept

-- the answer to an open while nothing changes, with the name that was judged; it is never busy
abbrev pub IsAnswer : Answered → List ℕ → Answer → Type 0
IsAnswer answered name (Judged verdict node tree policy) = answered ≡ judged (record { name = name; node = node; verdict = verdict })
    tree policy
IsAnswer answered name (Failed errno tree) = answered ≡ failed errno tree
IsAnswer answered name (NoProfile policy) = answered ≡ no_profile policy
IsAnswer answered name (Busy began ended) = ⊥
IsAnswer answered name answer.NoEntry = Unit {0}

-- the reader was let in once more, and answered
abbrev pub IsLetIn : Sitting → Sitting → Type 0
IsLetIn before now = (now.reading.entries ≡ before.reading.entries + 1) × (now.reading.refused ≡ before.reading.refused)

-- Why a link isn't answered: the reader wasn't, which is counted; or it was, and memory was refused for a link that would be made.
abbrev pub IsNoLink : Sitting → Sitting → LinkAnswered → Unanswered → Type 0
IsNoLink before now answered NoEntry = IsUnanswered before.reading now.reading now.profile
    × (now.reading.refused ≡ before.reading.refused + 1)
IsNoLink before now answered NoMemory = IsLetIn before now × IsMade answered

-- The same where the publisher is held exclusively: the reader learned what is published, was let in once, and answered; and why a
-- link isn't answered.
abbrev pub IsLetInWith : List Deed → Sitting → Sitting → Type 0
IsLetInWith published before now =
    (now.reading.learned ≡ published) × (now.reading.entries ≡ 1) × (now.reading.refused ≡ before.reading.refused)

abbrev pub IsNoLinkWith : List Deed → Sitting → Sitting → LinkAnswered → Unanswered → Type 0
IsNoLinkWith published before now answered NoEntry = IsUnansweredWith published before.reading now.reading now.profile
IsNoLinkWith published before now answered NoMemory = IsLetInWith published before now × IsMade answered

-- if no link was made, the keeper is as it was, with its count and its cells
abbrev pub IsUntouchedUnlessMade : LinkAnswer → Held → Held → Type 0
IsUntouchedUnlessMade (link.Linked node tree policy) before now = now.table ≡ before.table
IsUntouchedUnlessMade (link.NotAllowed verdict node tree policy) before now = now ≡ before
IsUntouchedUnlessMade (link.Failed errno tree) before now = now ≡ before
IsUntouchedUnlessMade (link.NoProfile policy) before now = now ≡ before
