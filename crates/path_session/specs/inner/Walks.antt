-- The outcome of a walk.
use Rattle.std.specs.Prelude.{◌≡◌, ◌⊎◌, ◌≢◌, ◌+◌, ◌%◌, ℕ, List, [], length, Result, Ok, Err}
use Rattle.names.specs.declared.errors.Errno.{Errno}
use Rattle.names.specs.declared.permissions.Perms.{Perms}
use Rattle.directory_tree.specs.Tree.{Tree}
use Rattle.mediation.specs.declared.opens.Reached as code
use Rattle.mediation.specs.Judgments.{reached_of}
use Rattle.mediation.specs.Opens.{Reached, reached}
use Rattle.justification.specs.Versions.{IsTreeAt}
use Rattle.row_rule.specs.declared.view.WalkerView.{WalkerView}
use Rattle.row_rule.specs.declared.count.Busy.{Busy}

abbrev pub end_of : List ℕ → Result code.Reached Errno → Result Reached Errno
end_of room (Ok file) = Ok (reached_of room file)
end_of room (Err errno) = Err errno

-- in the tree of all changes that were seen, whose version is half of both counts, the walk ends like this
pub record HasWalked (now : WalkerView) (path : List ℕ) (ask : Perms) (room : List ℕ) (version : ℕ)
    (file : Result code.Reached Errno) : Type 0 where
  pub version_is : version ≡ length now.seen
  pub half : now.noted ≡ version + version
  pub same_count : now.last ≡ now.noted
  pub tree : Tree
  pub is_at : IsTreeAt now.seen version tree
  pub end : reached tree path ask ≡ end_of room file

-- a walk during a change: both its counts, and if the first one is odd it read no cell
abbrev pub WasDisturbed : WalkerView → Busy → Type 0
WasDisturbed now busy =
    (now.noted ≡ busy.began) × (now.last ≡ busy.ended) × (busy.began % 2 ≡ 1 → now.reads ≡ [])
    × ((busy.began % 2 ≡ 1) ⊎ (busy.ended ≢ busy.began))
