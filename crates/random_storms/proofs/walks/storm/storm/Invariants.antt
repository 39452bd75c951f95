use Rattle.random_storms.proofs.walks.storm.storm.Given as goal

abbrev pub ghosts-storm_over : goal.ghosts-storm_over
ghosts-storm_over g a = record { table = a.keeper.table }
