-- What holds after one try of a session, and after those that are made without the lock.
use Rattle.std.specs.Prelude.{◌≡◌, ◌≤◌, ◌+◌, ℕ, List}
use Rattle.names.specs.declared.permissions.Perms.{Perms}
use Rattle.justification.specs.declared.answer.Answer.{Answer}
use Rattle.justification.specs.declared.answer.Answer.TheVariants.{Judged, Failed, NoProfile, Busy, NoEntry}
use Rattle.justification.specs.Justified.{Justified}
use Rattle.mediation.specs.Deeds.{policy_after}
use Rattle.path_session.specs.Sessions.{Sitting, IsSameSession, HasSeenMore, HasReadPolicy, HasReadCounts, HasVersions, IsNameJudged}
use Rattle.path_session.specs.Sessions.{IsByPublished, CountsRefusals}
use Rattle.guarded_row.specs.Opens.{HasAsked, HasLooked}

-- a try of a session, concurrently with the keeper
pub record IsTryOfSession (before now : Sitting) (path : List ℕ) (ask : Perms) (answer : Answer) : Type 0 where
  pub same : IsSameSession before now
  pub meetings : now.meetings ≡ before.meetings
  pub history : HasSeenMore before now
  pub policy_read : HasReadPolicy before now answer
  pub count_reads : HasReadCounts before.walk.view now.walk.view answer
  pub versions : HasVersions now answer
  pub justified : Justified before.profile path ask now.walk.view.seen now.reading.seen answer
  pub name : IsNameJudged now.walk.view.seen path ask answer now.judged
  pub published : IsByPublished (policy_after now.reading.seen before.profile) answer
  pub refused : CountsRefusals before now answer

-- each try but one that wasn't answered read the policy once; they all were made if the last one was busy
abbrev pub CountsTries : ℕ → Sitting → Sitting → Answer → Type 0
CountsTries most before now (Judged verdict node tree policy) = now.reading.entries ≤ before.reading.entries + most
CountsTries most before now (Failed errno tree) = now.reading.entries ≤ before.reading.entries + most
CountsTries most before now (NoProfile policy) = now.reading.entries ≤ before.reading.entries + most
CountsTries most before now (Busy began ended) = now.reading.entries ≡ before.reading.entries + most
CountsTries most before now NoEntry = now.reading.entries ≤ before.reading.entries + most

-- at most this many tries of it
pub record HasOpened (most : ℕ) (before now : Sitting) (path : List ℕ) (ask : Perms) (answer : Answer) : Type 0 where
  pub same : IsSameSession before now
  pub meetings : now.meetings ≡ before.meetings
  pub history : HasSeenMore before now
  pub asked : HasAsked before now answer
  pub looked : HasLooked before now answer
  pub counts : CountsTries most before now answer
  pub versions : HasVersions now answer
  pub justified : Justified before.profile path ask now.walk.view.seen now.reading.seen answer
  pub name : IsNameJudged now.walk.view.seen path ask answer now.judged
  pub published : IsByPublished (policy_after now.reading.seen before.profile) answer
  pub refused : CountsRefusals before now answer
