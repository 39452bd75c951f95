use Rattle.event_machine.specs.laws.Runs.{rule_kept}
use Rattle.event_machine.specs.laws.Ruled.{row_encodes}
use Rattle.event_machine.proofs.laws.runs_keep_rule.Goals as goal

pub returns-clause-rule : goal.returns-clause-rule
returns-clause-rule c = rule_kept

pub returns-clause-encodes : goal.returns-clause-encodes
returns-clause-encodes c capacity events answers m legal shut = row_encodes m (rule_kept capacity events answers m legal) shut
