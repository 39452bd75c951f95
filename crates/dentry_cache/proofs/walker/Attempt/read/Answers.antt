use Rattle.std.proofs.Common.{◌<◌, ℕ, sym, ap, ◌∙◌, subst, arith}
use Rattle.row_index.specs.laws.Sizes.{index_most}
use Rattle.tree_row.specs.Rows.{row_length}
use Rattle.dentry_cache.specs.Walks.{Walk}
use Rattle.dentry_cache.proofs.walker.Attempt.read.Goals as goal

pub read_cell-requires-clause-place : goal.read_cell-requires-clause-place
read_cell-requires-clause-place c =
    let at = c.self.invariant.0.at in
    let same = ap (λ (w : Walk). w.capacity) c.self.view_is in (
      subst (λ (n : ℕ). c.args.place < row_length n) (sym (ap (λ t. t.shared.key) c.deref.ensures ∙ (at.key_is ∙ same))) c.requires,
      omega (arith, c.requires, same, at.small, index_most c.args.self.now.capacity),
    )
