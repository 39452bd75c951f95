use Rattle.guard_tests.proofs.links.links.Given as goal

abbrev pub ghosts-links_by : goal.ghosts-links_by
ghosts-links_by g a = record { table = a.keeper.table }
