-- The name of the place that a path names, where an entry of a file is or is to be.
use Rattle.std.specs.Prelude.{ℕ, List, ◌∷◌, ◌++◌, Result}
use Rattle.names.specs.declared.errors.Errno.{Errno}
use Rattle.directory_tree.specs.Components.{slash}
use Rattle.directory_tree.specs.Tree.{Tree}
use Rattle.directory_tree.specs.Name.{directory_name, judged}
use Rattle.directory_tree.specs.Apply.{and_then, other_target, parent_of}

-- the name of a component in a directory, with no slash after it
abbrev pub place_name : Tree → ℕ → List ℕ → List ℕ
place_name t d component = directory_name t d ++ slash ∷ component

-- the name of the place, or why there is none that can be judged; whether there is an entry isn't checked
abbrev pub named_place : Tree → List ℕ → Result (List ℕ) Errno
named_place t path = and_then (other_target path) (λ a. and_then (parent_of t a) (λ d. judged (place_name t d a.last)))
