use Rattle.guard_tests.proofs.places.sessions_outlive_their_guard.Given as goal

abbrev pub ghosts-ended_guard : goal.ghosts-ended_guard
ghosts-ended_guard g a = record { table = a.keeper.table }
