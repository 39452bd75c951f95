-- When an answer is justified by the changes of a tree and of a policy. These are two lists, and version n is what the first n
-- changes make. An answer that names a version past the end of its list isn't justified.
use Rattle.std.specs.Prelude.{◌≡◌, ◌≢◌, ◌⊎◌, ◌%◌, ℕ, List, Some, None, Ok, Err}
use Rattle.names.specs.declared.permissions.Perms.{Perms}
use Rattle.directory_tree.specs.declared.change.Change.{Change}
use Rattle.directory_tree.specs.Tree.{Tree}
use Rattle.mediation.specs.Deeds.{Deed}
use Rattle.mediation.specs.Judge.{Judge, verdict_by}
use Rattle.mediation.specs.Opens.{Reached, reached}
use Rattle.justification.specs.declared.answer.Answer.{Answer}
use Rattle.justification.specs.declared.answer.Answer.TheVariants.{Judged, Failed, NoProfile, Busy, NoEntry}
use Rattle.justification.specs.Versions.{IsTreeAt, IsPublishedAt}

module _ (profile path : List ℕ) (ask : Perms) (changes : List Change) (deeds : List Deed) where
  -- the open reached this file in the tree of the version, and what the policy of its version publishes under the profile's name
  -- says this of the file's name
  abbrev pub IsJudgedAt : ℕ → ℕ → (Reached → Judge → Type 0) → Type 0
  IsJudgedAt tree policy Says =
      (t : Tree) × (file : Reached) × (judge : Judge) × IsTreeAt changes tree t × (reached t path ask ≡ Ok file)
      × IsPublishedAt deeds policy profile (Some judge) × Says file judge

  abbrev pub Justified : Answer → Type 0
  Justified (Judged verdict node tree policy) =
      IsJudgedAt tree policy (λ file judge. (file.node ≡ node) × (verdict_by judge file.name ask ≡ verdict))
  Justified (Failed errno tree) = (t : Tree) × IsTreeAt changes tree t × (reached t path ask ≡ Err errno)
  Justified (NoProfile policy) = IsPublishedAt deeds policy profile None
  -- the first count was odd, or the other one differed
  Justified (Busy began ended) = (began % 2 ≡ 1) ⊎ (ended ≢ began)
  Justified NoEntry = Unit {0}
