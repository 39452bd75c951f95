use Rattle.event_machine.proofs.Examples.{no_profile, judged_root, failed_root}
use Rattle.event_machine.proofs.Disturbed.{busy_root, overtaken_root}
use Rattle.event_machine.proofs.laws.calls_are_answered.Goals as goal

pub returns-clause-no_profile : goal.returns-clause-no_profile
returns-clause-no_profile c = no_profile

pub returns-clause-judged : goal.returns-clause-judged
returns-clause-judged c = judged_root

pub returns-clause-failed : goal.returns-clause-failed
returns-clause-failed c = failed_root

pub returns-clause-busy : goal.returns-clause-busy
returns-clause-busy c = busy_root

pub returns-clause-overtaken : goal.returns-clause-overtaken
returns-clause-overtaken c = overtaken_root
