-- The outcome that was found for an open in the tree of a version.
use Rattle.std.specs.Prelude.{◌≡◌, ◌≤◌, ℕ, List, Ok, Err}
use Rattle.names.specs.Limits.{longest_path}
use Rattle.names.specs.declared.errors.Errno.{Errno}
use Rattle.names.specs.declared.permissions.Perms.{Perms}
use Rattle.directory_tree.specs.declared.change.Change.{Change}
use Rattle.directory_tree.specs.Tree.{Tree}
use Rattle.mediation.specs.Judgments.{reached_of}
use Rattle.mediation.specs.Opens.{Reached, reached}
use Rattle.justification.specs.Versions.{IsTreeAt}
use Rattle.justification.specs.declared.reach.Reach.{Reach}
use Rattle.justification.specs.declared.reach.Reach.TheVariants.{NoTree, Failed, File}

-- the name fits in the room
abbrev pub Fits : Reach → Type 0
Fits NoTree = Unit {0}
Fits (Failed errno) = Unit {0}
Fits (File file) = file.name_length ≤ longest_path

abbrev pub IsReach : List Change → ℕ → List ℕ → Perms → List ℕ → Reach → Type 0
IsReach changes version path ask room NoTree = (t : Tree) → ¬ (IsTreeAt changes version t)
IsReach changes version path ask room (Failed errno) = (t : Tree) × IsTreeAt changes version t × (reached t path ask ≡ Err errno)
IsReach changes version path ask room (File file) = (t : Tree) × IsTreeAt changes version t
    × (reached t path ask ≡ Ok (reached_of room file))

-- no file was reached, for this reason
abbrev pub IsFailure : Reach → Errno → Type 0
IsFailure NoTree errno = ⊥
IsFailure (Failed told) errno = told ≡ errno
IsFailure (File file) errno = ⊥

-- a file was reached of which this holds
abbrev pub IsFileOf : Reach → List ℕ → (Reached → Type 0) → Type 0
IsFileOf NoTree room Says = ⊥
IsFileOf (Failed errno) room Says = ⊥
IsFileOf (File file) room Says = Says (reached_of room file)
