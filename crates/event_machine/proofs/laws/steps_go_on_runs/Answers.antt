use Rattle.event_machine.specs.Machine.{first}
use Rattle.event_machine.specs.laws.Runs.{runs_on}
use Rattle.event_machine.proofs.laws.steps_go_on_runs.Goals as goal

pub returns : goal.returns
returns c = λ capacity events later answers more m to legal runs. runs_on (first capacity) events later answers more m to legal runs
