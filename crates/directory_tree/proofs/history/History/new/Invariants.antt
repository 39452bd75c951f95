-- no events
use Rattle.std.proofs.Common.{[]}
use Rattle.directory_tree.proofs.history.History.new.Given as goal

abbrev pub ghost-of : goal.ghost-of
ghost-of g a = []
