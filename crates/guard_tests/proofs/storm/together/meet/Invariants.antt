use Rattle.guard_tests.proofs.storm.together.meet.Given as goal

abbrev pub ghosts-storm_on : goal.ghosts-storm_on
ghosts-storm_on g a = record { table = a.keeper.table }
