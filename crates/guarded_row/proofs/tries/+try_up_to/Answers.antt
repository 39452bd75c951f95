use Rattle.std.proofs.Common.{arith, ◌-◌, subst, sym}
use Rattle.guarded_row.specs.Tries.{IsBusy}
use Rattle.guarded_row.proofs.LastTries.{again}
use Rattle.guarded_row.proofs.tries.+try_up_to.Goals as goal

pub returns-in-Busy : goal.returns-in-Busy
returns-in-Busy g t c = again _ _ (c.args.most - 1) _ _ _ _ _ (omega (arith, c.if-most-gt1.true)) c.try_once.ensures
    (subst IsBusy (sym c.in-Busy.is) (λ none. none)) c.try_up_to.ensures
