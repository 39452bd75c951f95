use Rattle.tree_row.specs.laws.OpeningRow.{opens}
use Rattle.tree_row.proofs.laws.opening_row_encodes_root.Goals as goal

pub returns : goal.returns
returns c = opens
