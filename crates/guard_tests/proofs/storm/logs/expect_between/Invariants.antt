use Rattle.guard_tests.proofs.storm.logs.expect_between.Given as goal

abbrev pub ghosts-seen_on : goal.ghosts-seen_on
ghosts-seen_on g a = record { table = a.keeper.table }
