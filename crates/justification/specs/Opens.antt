-- Opens of one path together with changes of the tree.
use Rattle.std.specs.Prelude.{ℕ, List}
use Rattle.names.specs.declared.permissions.Perms.{Perms}
use Rattle.directory_tree.specs.declared.change.Change.{Change}

-- the path, what is asked, and the changes, the first of them first
pub record Opens : Type 0 where
  pub path : List ℕ
  pub ask : Perms
  pub changes : List Change
