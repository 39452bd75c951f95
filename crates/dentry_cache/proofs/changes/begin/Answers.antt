use Rattle.std.proofs.Common.{◌+◌, ◌<◌, drop, Some, ap, ◌∙◌, arith}
use Rattle.std.proofs.lemmas.List.Elements.{All-get_or}
use Rattle.row_index.specs.laws.Sizes.{index_most}
use Rattle.tree_row.specs.Rows.{row_length}
use Rattle.row_rule.specs.declared.cell.Cell.{Cell}
use Rattle.row_rule.specs.declared.view.Pending.{Pending}
use Rattle.dentry_cache.specs.Seats.{keeper_of}
use Rattle.dentry_cache.proofs.SetCells.{pending_next, one_more_set}
use Rattle.dentry_cache.proofs.changes.begin.Goals as goal

pub set_cell-requires-clause-words : goal.set_cell-requires-clause-words
set_cell-requires-clause-words c =
    let key = c.args.table.now.shared.key in
    let inside = All-get_or (λ (cell : Cell). cell.place < row_length key) c.args.plan.now c.loop-i.i record { place = 0; word = 0 }
    (omega (arith, c.loop-i-test.true, c.requires.fewer)) c.requires.within in
    (omega (arith, inside, c.requires.words.0), omega (arith, inside, c.requires.words.1, index_most key))

pub set_cell-requires-clause-next : goal.set_cell-requires-clause-next
set_cell-requires-clause-next c =
    let plan = c.args.plan.now in
    let i = c.loop-i.i in (
      c.args.change.now,
      drop (i + 1) plan,
      c.loop-i.invariant.pending ∙ ap (λ (p : Pending). Some p)
          (pending_next c.args.change.now plan i record { place = 0; word = 0 } (omega (arith, c.loop-i-test.true, c.requires.fewer))),
    )

pub loop-i-preserved : goal.loop-i-preserved
loop-i-preserved c =
    let v = c.loop-i.invariant in
    let e = c.set_cell.ensures in
    let (history, pending, cells) =
    one_more_set _ _ (keeper_of c.open.new.seat.me.0) c.args.change.now c.args.plan.now c.loop-i.i record { place = 0; word = 0 }
    (omega (arith, c.loop-i-test.true, c.requires.fewer))
    e.told v.history v.pending v.cells in
    record { own = e.own ∙ v.own; role = e.role; history = history; pending = pending; cells = cells }
