-- The patterns match the same names.
use Rattle.rule_making.specs.laws.SameNames.{led_same}
use Rattle.rule_making.proofs.laws.led_paths_take_the_same.Goals as goal

pub returns-clause-same : goal.returns-clause-same
returns-clause-same c items name full some = led_same items full some name
