use Rattle.rule_influence.proofs.Entries.{added_there}
use Rattle.rule_influence.proofs.notes.add.Goals as goal

pub returns-then-number-decided : goal.returns-then-number-decided
returns-then-number-decided c =
    added_there c.args.number c.args.permission c.args.decided.now _ c.with.result c.if-number-ne0.true c.if-number-decided.true
    c.with.ensures
