use Rattle.guard_tests.proofs.locked.quick_under_lock.Given as goal

abbrev pub ghosts-quick_under_lock_by : goal.ghosts-quick_under_lock_by
ghosts-quick_under_lock_by g a = record { table = a.keeper.table }
