-- An item of another kind ends otherwise; a group with its brace.
use Rattle.rule_making.specs.laws.Ends.{no_run}
use Rattle.rule_making.proofs.shapes.is_run.Goals as goal

pub returns-in_default : goal.returns-in_default
returns-in_default c = no_run c.args.item.now c.in_default.not-Stars
