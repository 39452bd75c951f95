use Rattle.std.proofs.Common.{ap, arith}
use Rattle.row_index.specs.laws.Sizes.{index_most}
use Rattle.dentry_cache.specs.Models.{Held}
use Rattle.dentry_cache.proofs.kept_row.KeptRow.read.Goals as goal

pub overflow_add-place : goal.overflow_add-place
overflow_add-place c =
    let same = ap (λ (h : Held). h.capacity) c.self.view_is in
    omega (arith, c.requires, same, c.self.invariant.0.at.small, index_most c.args.self.now.capacity)
