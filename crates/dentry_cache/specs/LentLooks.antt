-- The keeper's value once its look is given back.
use Rattle.std.specs.Borrow.{Lends, MutBor, Fml}
use Rattle.tree_row.specs.declared.look.RowLook.{RowLook}
use Rattle.tree_row.specs.contracts.look.RowLook as look
use Rattle.dentry_cache.specs.declared.kept_row.KeptRow.{KeptRow}
use Rattle.dentry_cache.specs.contracts.kept_row.KeptRow as row
use Rattle.dentry_cache.specs.contracts.keeper.Keeper.{the_row}
use Rattle.dentry_cache.specs.Models.{Held}

-- the keeper ends as the look leaves its row
abbrev pub LendsLook : MutBor Held → MutBor (RowLook KeptRow) → Fml
LendsLook keeper lent = Lends the_row (look.the_row row.the_row) keeper lent (λ left. left.cells)
