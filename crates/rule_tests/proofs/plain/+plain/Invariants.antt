-- Each group has one level less.
use Rattle.std.proofs.Common.{◌+◌, ◌*◌}
use Rattle.rule_tests.proofs.plain.+plain.Given as goal

abbrev pub decreases-pass_items : goal.decreases-pass_items
decreases-pass_items l = 3 * l.levels + 1

abbrev pub decreases-pass_item : goal.decreases-pass_item
decreases-pass_item l = 3 * l.levels

abbrev pub decreases-pass_alternatives : goal.decreases-pass_alternatives
decreases-pass_alternatives l = 3 * l.levels + 2
