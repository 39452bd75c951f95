-- What contracts see of a session, and what an open concurrently with keeper and publisher says. To believe the contract of
-- `Session::try_open` read this file and `justification`'s Justified, and what they import:
-- `tools/definitions --cited path_session Session::try_open` prints these files in reading order. What
-- calls with the keeper held exclusively say is in AtHand.
use Rattle.std.specs.Prelude.{◌≡◌, ◌≢◌, ◌⊎◌, ◌+◌, ◌%◌, ◌^◌, ℕ, List, [], length, Option, None, IsSome, Ok}
use mathlib.Core.List.{IsPrefix}
use Rattle.names.specs.declared.permissions.Perms.{Perms}
use Rattle.directory_tree.specs.declared.change.Change.{Change}
use Rattle.directory_tree.specs.Tree.{Tree}
use Rattle.dentry_cache.specs.Walks.{Walk}
use Rattle.mediation.specs.Judge.{Judge}
use Rattle.mediation.specs.Opens.{Reached, reached}
use Rattle.profile_registry.specs.Views.{Reading, IsUnanswered}
use Rattle.row_rule.specs.declared.view.WalkerView.{WalkerView}
use Rattle.justification.specs.declared.answer.Answer.{Answer}
use Rattle.justification.specs.declared.answer.Answer.TheVariants.{Judged, Failed, NoProfile, Busy}
use Rattle.justification.specs.declared.answer.Answer.TheVariants as answer
use Rattle.justification.specs.Versions.{IsTreeAt}

-- its walker, its reader of the policy, the profile that it opens by, the name that it judged last, and how often it met its
-- keeper and answered by a verdict that it had kept, modulo 2^64
pub record Sitting : Type 0 where
  pub walk : Walk
  pub reading : Reading
  pub profile : List ℕ
  pub judged : List ℕ
  pub meetings : ℕ
  pub kept_answers : ℕ

-- it walks over the same row, and opens by the same profile
abbrev pub IsSameSession : Sitting → Sitting → Type 0
IsSameSession before now =
    (now.walk.table ≡ before.walk.table) × (now.walk.capacity ≡ before.walk.capacity) × (now.profile ≡ before.profile)

-- the changes of the tree and of the policy that it had seen are the first ones of those that it has seen now
abbrev pub HasSeenMore : Sitting → Sitting → Type 0
HasSeenMore before now = IsPrefix before.walk.view.seen now.walk.view.seen × IsPrefix before.reading.seen now.reading.seen

-- it was let into the policy once more, or it wasn't answered
abbrev pub HasReadPolicy : Sitting → Sitting → Answer → Type 0
HasReadPolicy before now (Judged verdict node tree policy) = now.reading.entries ≡ before.reading.entries + 1
HasReadPolicy before now (Failed errno tree) = now.reading.entries ≡ before.reading.entries + 1
HasReadPolicy before now (NoProfile policy) = now.reading.entries ≡ before.reading.entries + 1
HasReadPolicy before now (Busy began ended) = now.reading.entries ≡ before.reading.entries + 1
HasReadPolicy before now answer.NoEntry = IsUnanswered before.reading now.reading now.profile

-- It read the count twice, or once for a verdict that was kept, and then no cell. If the policy gave no profile, no word is read.
abbrev pub HasReadCounts : WalkerView → WalkerView → Answer → Type 0
HasReadCounts before now (Judged verdict node tree policy) =
    (now.count_reads ≡ before.count_reads + 2) ⊎ ((now.count_reads ≡ before.count_reads + 1) × (now.reads ≡ []))
HasReadCounts before now (Failed errno tree) = now.count_reads ≡ before.count_reads + 2
HasReadCounts before now (NoProfile policy) = now ≡ before
HasReadCounts before now (Busy began ended) = now.count_reads ≡ before.count_reads + 2
HasReadCounts before now answer.NoEntry = now ≡ before

-- An answer by a kept verdict is counted: in an attempt, exactly if the count was read once.
abbrev pub counted : ℕ → ℕ
counted n = (n + 1) % 2 ^ 64

abbrev pub CountsKept : WalkerView → WalkerView → ℕ → ℕ → Type 0
CountsKept before now kept kept_now =
    ((now.count_reads ≡ before.count_reads + 1) × (kept_now ≡ counted kept))
    ⊎ ((now.count_reads ≢ before.count_reads + 1) × (kept_now ≡ kept))

-- the versions are those of all changes that it has seen
abbrev pub HasVersions : Sitting → Answer → Type 0
HasVersions now (Judged verdict node tree policy) = (tree ≡ length now.walk.view.seen) × (policy ≡ length now.reading.seen)
HasVersions now (Failed errno tree) = tree ≡ length now.walk.view.seen
HasVersions now (NoProfile policy) = policy ≡ length now.reading.seen
HasVersions now (Busy began ended) = Unit {0}
HasVersions now answer.NoEntry = Unit {0}

-- The tree's version is half the count that the walk began with, and the count read last was the same. A busy walk reports both its
-- counts, and if the first one is odd it read no cell.
abbrev pub IsByCounts : WalkerView → Answer → Type 0
IsByCounts now (Judged verdict node tree policy) = (now.noted ≡ tree + tree) × (now.last ≡ now.noted)
IsByCounts now (Failed errno tree) = (now.noted ≡ tree + tree) × (now.last ≡ now.noted)
IsByCounts now (NoProfile policy) = Unit {0}
IsByCounts now (Busy began ended) = (now.noted ≡ began) × (now.last ≡ ended) × (began % 2 ≡ 1 → now.reads ≡ [])
IsByCounts now answer.NoEntry = Unit {0}

-- the name of the file that was judged, empty if none was
abbrev pub IsNameJudged : List Change → List ℕ → Perms → Answer → List ℕ → Type 0
IsNameJudged changes path ask (Judged verdict node tree policy) name =
    (t : Tree) × (file : Reached) × IsTreeAt changes tree t × (reached t path ask ≡ Ok file) × (file.name ≡ name)
IsNameJudged changes path ask (Failed errno tree) name = name ≡ []
IsNameJudged changes path ask (NoProfile policy) name = name ≡ []
IsNameJudged changes path ask (Busy began ended) name = name ≡ []
IsNameJudged changes path ask answer.NoEntry name = name ≡ []

-- unless there was no entry: the answer is that there is no profile exactly if none is published
abbrev pub IsByPublished : Option Judge → Answer → Type 0
IsByPublished published (Judged verdict node tree policy) = IsSome published
IsByPublished published (Failed errno tree) = IsSome published
IsByPublished published (NoProfile policy) = published ≡ None
IsByPublished published (Busy began ended) = IsSome published
IsByPublished published answer.NoEntry = Unit {0}

-- NoEntry is answered exactly if the reader wasn't answered, which is counted
abbrev pub CountsRefusals : Sitting → Sitting → Answer → Type 0
CountsRefusals before now (Judged verdict node tree policy) = now.reading.refused ≡ before.reading.refused
CountsRefusals before now (Failed errno tree) = now.reading.refused ≡ before.reading.refused
CountsRefusals before now (NoProfile policy) = now.reading.refused ≡ before.reading.refused
CountsRefusals before now (Busy began ended) = now.reading.refused ≡ before.reading.refused
CountsRefusals before now answer.NoEntry = now.reading.refused ≡ before.reading.refused + 1
