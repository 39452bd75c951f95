-- The outcome of an attempt at an open that no change disturbed.
use Rattle.std.specs.Prelude.{◌≡◌, ◌+◌, ◌≤◌, ℕ, List, [], length, IfOk}
use Rattle.names.specs.Limits.{longest_path}
use Rattle.names.specs.declared.permissions.Perms.{Perms}
use Rattle.row_rule.specs.declared.view.WalkerView.{WalkerView}
use Rattle.verdict_cache.specs.Questions.{Kept}
use Rattle.path_session.specs.declared.quick.Tried.{Tried}
use Rattle.path_session.specs.declared.quick.Tried.TheVariants.{Found, Walked}
use Rattle.kept_verdicts.specs.KeptFiles.{kept_of}
use Rattle.path_session.specs.inner.Walks.{HasWalked}

-- it read the count once, and no cell
pub record HasReadOnce (before now : WalkerView) (version : ℕ) : Type 0 where
  pub version_is : version ≡ length now.seen
  pub half : now.noted ≡ version + version
  pub same_count : now.last ≡ now.noted
  pub once : now.count_reads ≡ before.count_reads + 1
  pub unread : now.reads ≡ []

-- it found a kept verdict, of which this holds; or it walked, and read the count twice
abbrev pub HasTried : WalkerView → WalkerView → (ℕ → Kept → Type 0) → List ℕ → Perms → List ℕ → Tried → Type 0
HasTried before now Holds path ask room (Found version file) =
    HasReadOnce before now version × Holds version (kept_of room file) × (file.name_length ≤ longest_path)
HasTried before now Holds path ask room (Walked walked) = HasWalked now path ask room walked.version walked.file
    × (now.count_reads ≡ before.count_reads + 2) × IfOk walked.file (λ file. file.name_length ≤ longest_path)
