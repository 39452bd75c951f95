use Rattle.std.proofs.Common.{◌-◌}
use Rattle.glob_automaton.proofs.compilation.+tree.Given as goal

abbrev pub decreases-tree : goal.decreases-tree
decreases-tree l = l.last - l.first
