-- the same events
use Rattle.directory_tree.proofs.history.History.again.Given as goal

abbrev pub ghost-of : goal.ghost-of
ghost-of g a = a._first.now.events
