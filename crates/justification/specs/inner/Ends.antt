-- The outcome that was found for an open in the tree of a version.
use Rattle.std.specs.Prelude.{◌≡◌, ◌<◌, ◌≤◌, ℕ, List, length, Ok, Err}
use Rattle.std.proofs.Common.{get_or}
use Rattle.names.specs.declared.errors.Errno.{Errno}
use Rattle.names.specs.declared.permissions.Perms.{Perms}
use Rattle.directory_tree.specs.declared.change.Change.{Change}
use Rattle.directory_tree.specs.Tree.{Tree}
use Rattle.mediation.specs.Opens.{Reached, reached}
use Rattle.justification.specs.Versions.{IsTreeAt}
use Rattle.justification.specs.declared.end.End.{End}
use Rattle.justification.specs.declared.end.End.TheVariants.{Failed, File}
use Rattle.justification.specs.declared.end.File as code

abbrev pub file_of : code.File → Reached
file_of file = record { name = file.name.items; node = file.node }

abbrev pub IsEndIn : Tree → List ℕ → Perms → End → Type 0
IsEndIn t path ask (Failed errno) = reached t path ask ≡ Err errno
IsEndIn t path ask (File file) = reached t path ask ≡ Ok (file_of file)

abbrev pub IsEnd : List Change → ℕ → List ℕ → Perms → End → Type 0
IsEnd changes version path ask (Failed errno) = (t : Tree) × IsTreeAt changes version t × (reached t path ask ≡ Err errno)
IsEnd changes version path ask (File file) = (t : Tree) × IsTreeAt changes version t × (reached t path ask ≡ Ok (file_of file))

-- the ends are those of the versions 0, 1 and so on; no later version has a tree
pub record AreEnds (changes : List Change) (path : List ℕ) (ask : Perms) (ends : List End) : Type 0 where
  pub each : (version : ℕ) (default : End) → version < length ends → IsEnd changes version path ask (get_or ends version default)
  pub no_more : (version : ℕ) (t : Tree) → length ends ≤ version → ¬ (IsTreeAt changes version t)

-- no file was reached, for this reason
abbrev pub IsFailure : End → Errno → Type 0
IsFailure (Failed told) errno = told ≡ errno
IsFailure (File file) errno = ⊥

-- a file was reached of which this holds
abbrev pub IsFileOf : End → (Reached → Type 0) → Type 0
IsFileOf (Failed errno) Says = ⊥
IsFileOf (File file) Says = Says (file_of file)
