-- Versions: the tree after the first n of its changes, and the policy after the first n of its own.
use Rattle.std.specs.Prelude.{◌≡◌, ℕ, ◌≤◌, List, length, take, Option, Ok}
use Rattle.directory_tree.specs.declared.change.Change.{Change}
use Rattle.directory_tree.specs.Tree.{Tree}
use Rattle.directory_tree.specs.Apply.{tree_after}
use Rattle.mediation.specs.Deeds.{Deed, policy_after}
use Rattle.mediation.specs.Judge.{Judge}

-- t is what the first `version` changes make of the root alone, with room for each change
abbrev pub IsTreeAt : List Change → ℕ → Tree → Type 0
IsTreeAt changes version t = (version ≤ length changes) × (tree_after (length changes) (take version changes) ≡ Ok t)

-- after the first `version` changes of the policy this is what is published under the name, if anything is
abbrev pub IsPublishedAt : List Deed → ℕ → List ℕ → Option Judge → Type 0
IsPublishedAt deeds version profile published = (version ≤ length deeds) × (policy_after (take version deeds) profile ≡ published)
