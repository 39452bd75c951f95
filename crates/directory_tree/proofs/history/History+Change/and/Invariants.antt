-- the changes of the history, and one more
use Rattle.std.proofs.Common.{[], ◌∷◌, ◌++◌}
use Rattle.directory_tree.proofs.history.History+Change.and.Given as goal

abbrev pub ghost-of : goal.ghost-of
ghost-of a = a._first.now.events ++ a._second.now.now ∷ []
