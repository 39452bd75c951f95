use Rattle.std.proofs.Common.{arith}
use Rattle.dentry_cache.proofs.SetCells.{stopped}
use Rattle.dentry_cache.proofs.kept_row.KeptRow.stop_amid.Goals as goal

pub begin-requires-clause-fewer : goal.begin-requires-clause-fewer
begin-requires-clause-fewer c = omega (arith, c.min.ensures)

pub returns : goal.returns
returns c =
    let b = c.begin.ensures in
    rw c.of.ensures (stopped c.self.inside.seat c.begin.new.seat _ _ c.args.change.now c.args.plan.now c.args.set _ c.self.view_is
    c.requires c.min.ensures b.own b.history b.pending b.cells)
