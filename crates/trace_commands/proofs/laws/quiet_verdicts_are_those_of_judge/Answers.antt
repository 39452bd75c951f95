use Rattle.trace_commands.proofs.QuietVerdicts.{allowed, refused, same_fault}
use Rattle.trace_commands.proofs.laws.quiet_verdicts_are_those_of_judge.Goals as goal

pub returns-clause-allowed : goal.returns-clause-allowed
returns-clause-allowed c = allowed

pub returns-clause-refused : goal.returns-clause-refused
returns-clause-refused c = refused

pub returns-clause-fault : goal.returns-clause-fault
returns-clause-fault c = same_fault
