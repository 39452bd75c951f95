use Rattle.std.proofs.Common.{◌≤◌, ℕ, length, sym, subst}
use Rattle.tree_row.proofs.SeenEntries.{most_seen}
use Rattle.tree_row.proofs.look.RowLookChangeLook.most_entries.Goals as goal

pub returns : goal.returns
returns g c w seen = subst (λ (z : ℕ). length w.tree.entries ≤ z) (sym c.capacity.ensures.capacity) (most_seen _ _ w seen)
