use Rattle.event_machine.specs.laws.Ruled.{takes_keep}
use Rattle.event_machine.specs.laws.Runs.{runs_keep}
use Rattle.event_machine.proofs.laws.steps_keep_rule.Goals as goal

pub returns-clause-step : goal.returns-clause-step
returns-clause-step c = λ old event told new. takes_keep old new event told

pub returns-clause-run : goal.returns-clause-run
returns-clause-run c = runs_keep
