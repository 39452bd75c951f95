use Rattle.trace_test.proofs.Plain.{plain_answers, plain_commands, plain_length, plain_output, plain_stopped}
use Rattle.trace_test.proofs.laws.scripts_are_tests.Goals as goal

pub returns-clause-commands : goal.returns-clause-commands
returns-clause-commands c text plain = plain_commands text plain

pub returns-clause-none_expects : goal.returns-clause-none_expects
returns-clause-none_expects c text plain = plain_length text plain

pub returns-clause-stopped : goal.returns-clause-stopped
returns-clause-stopped c text plain = plain_stopped text plain

pub returns-clause-output : goal.returns-clause-output
returns-clause-output c text limit plain whole taken format history = plain_output text limit plain whole taken format history

pub returns-clause-answers : goal.returns-clause-answers
returns-clause-answers c text limit plain whole taken history = plain_answers text limit plain whole taken history
