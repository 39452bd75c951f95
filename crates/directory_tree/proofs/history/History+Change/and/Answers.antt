use borrow.Author.Rules.{lives}
use Rattle.directory_tree.proofs.history.History+Change.and.Goals as goal

-- Each variant of a change has its lifetime once more.
pub of-requires : goal.of-requires
of-requires c κs within = search lives depth 60 fits 20000
