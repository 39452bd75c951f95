use Rattle.apparmor_variables.proofs.WholeLaws.{same_lists}
use Rattle.apparmor_variables.proofs.laws.limits_are_of_whole_lists.Goals as goal

pub returns : goal.returns
returns c = same_lists
