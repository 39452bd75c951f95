use Rattle.guard_tests.proofs.back.guard_reads_back.Given as goal

abbrev pub ghosts-guard_reads_back_by : goal.ghosts-guard_reads_back_by
ghosts-guard_reads_back_by g a = record { table = a.keeper.table }
