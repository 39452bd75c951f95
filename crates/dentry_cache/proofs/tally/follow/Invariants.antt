use Rattle.std.proofs.Common.{ℕ, ◌<◌, List, length, take}
use Rattle.std.specs.List.{All}
use Rattle.row_rule.specs.declared.cell.Cell.{Cell}
use Rattle.row_rule.specs.Row.{write}
use Rattle.row_tally.specs.Tally.{IsTallyOf}
use Rattle.dentry_cache.proofs.tally.follow.Given as goal

-- the cells so far are followed
abbrev pub invariant-loop-cell : goal.invariant-loop-cell
invariant-loop-cell l = (capacity : ℕ) (row : List ℕ) → All (λ (cell : Cell). cell.place < length row) l.plan →
    IsTallyOf capacity row l.initial.tally → IsTallyOf capacity (write row (take l.cell-index l.plan)) l.tally
