use Rattle.mediating_server.proofs.server.serve.Given as goal

abbrev pub ghosts-serve_over : goal.ghosts-serve_over
ghosts-serve_over g a = record { table = a.keeper.table }
