use Rattle.trace_program.proofs.storm.log.Given as goal

abbrev pub ghosts-log_over : goal.ghosts-log_over
ghosts-log_over g a = record { table = a.keeper.table }
