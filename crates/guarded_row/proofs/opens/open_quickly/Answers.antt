use Rattle.guarded_row.proofs.Opened.{opened}
use Rattle.guarded_row.proofs.opens.open_quickly.Goals as goal

pub returns : goal.returns
returns c = opened _ _ _ _ _ _ c.try_up_to.ensures
