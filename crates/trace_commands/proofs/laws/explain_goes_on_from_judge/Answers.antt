use Rattle.trace_commands.proofs.ExplainEndings.{goes_on, same_status}
use Rattle.trace_commands.proofs.laws.explain_goes_on_from_judge.Goals as goal

pub returns-clause-text : goal.returns-clause-text
returns-clause-text c = goes_on

pub returns-clause-status : goal.returns-clause-status
returns-clause-status c = same_status
