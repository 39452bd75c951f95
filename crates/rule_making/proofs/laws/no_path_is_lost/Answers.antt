-- Each of them can be read.
use Rattle.rule_making.proofs.LedStays.{none_lost}
use Rattle.rule_making.proofs.laws.no_path_is_lost.Goals as goal

pub returns : goal.returns
returns c items full stands few = none_lost items full stands few
