use Rattle.dentry_cache.proofs.walker.Attempt.end.Given as goal

abbrev pub ghosts-end_walk : goal.ghosts-end_walk
ghosts-end_walk a = record { capacity = a.table.now.shared.key }
