use Rattle.script_notes.proofs.Said.{keep_so, run_so, step_so, test_so}
use Rattle.script_notes.proofs.laws.what_is_said_is_so.Goals as goal

pub returns-clause-run : goal.returns-clause-run
returns-clause-run c word words h = run_so word words h

pub returns-clause-steps : goal.returns-clause-steps
returns-clause-steps c word words keep h = step_so word words keep h

pub returns-clause-after_keep : goal.returns-clause-after_keep
returns-clause-after_keep c word words h = keep_so word words h

pub returns-clause-test : goal.returns-clause-test
returns-clause-test c number word words h = test_so number word words h
