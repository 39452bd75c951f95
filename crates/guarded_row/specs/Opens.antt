-- What contracts say about opens by a guarded row.
use Rattle.std.specs.Prelude.{◌≡◌, ◌≢◌, ◌⊎◌, ◌+◌, ◌<◌, ◌≤◌}
use Rattle.justification.specs.declared.answer.Answer.{Answer}
use Rattle.justification.specs.declared.answer.Answer.TheVariants.{Judged, Failed, NoProfile, Busy, NoEntry}
use Rattle.path_session.specs.Sessions.{Sitting}

-- it is never busy
abbrev pub IsNotBusy : Answer → Type 0
IsNotBusy (Judged verdict node tree policy) = Unit {0}
IsNotBusy (Failed errno tree) = Unit {0}
IsNotBusy (NoProfile policy) = Unit {0}
IsNotBusy (Busy began ended) = ⊥
IsNotBusy NoEntry = Unit {0}

-- unless there was no entry, the policy was read; and in no case fewer entries are counted
abbrev pub HasAsked : Sitting → Sitting → Answer → Type 0
HasAsked before now (Judged verdict node tree policy) = before.reading.entries < now.reading.entries
HasAsked before now (Failed errno tree) = before.reading.entries < now.reading.entries
HasAsked before now (NoProfile policy) = before.reading.entries < now.reading.entries
HasAsked before now (Busy began ended) = before.reading.entries < now.reading.entries
HasAsked before now NoEntry = before.reading.entries ≤ now.reading.entries

-- where the tree was asked, the count was read, or the keeper met
abbrev pub HasLooked : Sitting → Sitting → Answer → Type 0
HasLooked before now (Judged verdict node tree policy) =
    (before.walk.view.count_reads < now.walk.view.count_reads) ⊎ (now.meetings ≢ before.meetings)
HasLooked before now (Failed errno tree) =
    (before.walk.view.count_reads < now.walk.view.count_reads) ⊎ (now.meetings ≢ before.meetings)
HasLooked before now (NoProfile policy) = Unit {0}
HasLooked before now (Busy began ended) = before.walk.view.count_reads < now.walk.view.count_reads
HasLooked before now NoEntry = Unit {0}

-- It was tried three times at most, each time with one reading of the policy, and the keeper wasn't met; or it was tried three times,
-- and once more when the keeper was met.
abbrev pub IsByTries : Sitting → Sitting → Type 0
IsByTries before now =
    ((now.meetings ≡ before.meetings) × (now.reading.entries ≤ before.reading.entries + 3))
    ⊎ ((now.meetings ≢ before.meetings) × (now.reading.entries ≡ before.reading.entries + 4))

-- if there was no entry, the policy was read four times at most
abbrev pub IsTriedFirst : Sitting → Sitting → Answer → Type 0
IsTriedFirst before now (Judged verdict node tree policy) = IsByTries before now
IsTriedFirst before now (Failed errno tree) = IsByTries before now
IsTriedFirst before now (NoProfile policy) = IsByTries before now
IsTriedFirst before now (Busy began ended) = ⊥
IsTriedFirst before now NoEntry = now.reading.entries ≤ before.reading.entries + 4
