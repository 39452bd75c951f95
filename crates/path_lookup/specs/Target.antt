-- A path that was split before its last component.
use Rattle.std.specs.Prelude.{◌≡◌, ℕ, ◌≤◌, ◌&&◌, Bool, true, false, List, [], ◌∷◌, ◌++◌, map, length, Result, Ok}
use Rattle.names.specs.declared.errors.Errno.{Errno}
use Rattle.path_lookup.specs.declared.target.EndSlash.{EndSlash}
use Rattle.path_lookup.specs.declared.target.EndSlash.TheVariants.{Allowed, Refused}
use Rattle.path_lookup.specs.declared.target.SplitPath.{SplitPath}
use Rattle.names.specs.declared.limits.TheConstants.{LONGEST_COMPONENT, LONGEST_PATH}
use Rattle.names.specs.Paths.{filled_parts, ends_with_slash}
use Rattle.directory_tree.specs.Components.{step_of, steps_of}
use Rattle.directory_tree.specs.Apply.{Target, target_of}

abbrev pub is_refused : EndSlash → Bool
is_refused Allowed = false
is_refused Refused = true

-- for a directory `directory_target`, and else `other_target`
abbrev pub target_for : EndSlash → List ℕ → Result Target Errno
target_for slash path = target_of (is_refused slash && ends_with_slash path) (filled_parts path)

abbrev pub target_from_parts : SplitPath → Target
target_from_parts parts = record { before = filled_parts parts.before.now; last = parts.last.now }

-- these are the parts of the path, and a walk of the first of them takes just its components
pub record IsSplit (slash : EndSlash) (path : List ℕ) (parts : SplitPath) : Type 0 where
  pub target : target_for slash path ≡ Ok (target_from_parts parts)
  pub steps : steps_of parts.before.now ≡ map step_of (filled_parts parts.before.now)
  pub short : length parts.before.now ≤ length path
  pub names : filled_parts path ≡ filled_parts parts.before.now ++ parts.last.now ∷ []

-- as the parts of a path are
pub record AreShort (parts : SplitPath) : Type 0 where
  pub before_fits : length parts.before.now ≤ LONGEST_PATH
  pub last_fits : length parts.last.now ≤ LONGEST_COMPONENT
