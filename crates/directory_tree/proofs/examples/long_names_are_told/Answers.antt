use Rattle.std.proofs.Common.{refl}
use Rattle.directory_tree.proofs.examples.long_names_are_told.Goals as goal

pub returns-clause-longest : goal.returns-clause-longest
returns-clause-longest c = refl

pub returns-clause-too_long : goal.returns-clause-too_long
returns-clause-too_long c = refl
