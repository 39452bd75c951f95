use Rattle.guarded_row.proofs.tries.+try_up_to.Given as goal

abbrev pub decreases-try_up_to : goal.decreases-try_up_to
decreases-try_up_to g l = l.most
