-- The name of an entry: the path from the root that has no link, no `.` and no `..` in it (getcwd(3), realpath(3)).
pub use Rattle.names.specs.Limits.{longest_path}
use Rattle.std.specs.Prelude.{ℕ, zero, suc, ◌==◌, List, [], ◌∷◌, ◌++◌, length, Some, None, Result, Ok, Err, nat_lt, if◌then◌else◌}
use Rattle.names.specs.declared.errors.Errno.{Errno}
use Rattle.names.specs.declared.errors.Errno.TheVariants.{ENAMETOOLONG}
use Rattle.directory_tree.specs.Components.{slash}
use Rattle.directory_tree.specs.Tree.{Tree, Entry, root, own_entry, is_directory}
use Rattle.directory_tree.specs.Walk.{Spot}
use Rattle.directory_tree.specs.Walk.Spot.{Root, Held}

-- the components from the root to a directory, each with a slash before it, up to this many steps up
abbrev pub name_up : List Entry → ℕ → ℕ → List ℕ
name_up es zero d = []
name_up es (suc n) d = if d == root then [] else elim (own_entry es d) [ None ↦ [] | Some e ↦ name_up es n e.of ++ slash ∷ e.component ]

-- no climb is longer than there are entries
abbrev pub directory_name : Tree → ℕ → List ℕ
directory_name t d = name_up t.entries (length t.entries) d

-- a directory's name ends with a slash (apparmor.d(5): this is how a rule's path distinguishes a directory from a file)
abbrev pub name_of : Tree → Spot → List ℕ
name_of t Root = slash ∷ []
name_of t (Held e) = directory_name t e.of ++ slash ∷ (e.component ++ (if is_directory e.kind then slash ∷ [] else []))

-- a longer name can't be judged (our choice)
abbrev pub judged : List ℕ → Result (List ℕ) Errno
judged name = if nat_lt longest_path (length name) then Err ENAMETOOLONG else Ok name

abbrev pub judged_name : Tree → Spot → Result (List ℕ) Errno
judged_name t spot = judged (name_of t spot)
