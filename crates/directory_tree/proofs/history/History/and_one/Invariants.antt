-- the events of the history, and one more
use Rattle.std.proofs.Common.{[], ◌∷◌, ◌++◌}
use Rattle.directory_tree.proofs.history.History.and_one.Given as goal

abbrev pub ghost-of : goal.ghost-of
ghost-of g a = a._first.now.events ++ a._second.now ∷ []
