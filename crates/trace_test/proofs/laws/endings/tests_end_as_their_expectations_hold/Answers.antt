use Rattle.trace_test.proofs.Statuses as statuses
use Rattle.test_script.specs.TestScript.{test_script}
use Rattle.trace_test.proofs.laws.endings.tests_end_as_their_expectations_hold.Goals as goal

pub returns-clause-failed_as_done : goal.returns-clause-failed_as_done
returns-clause-failed_as_done c options limit streams left left_after history text all written =
    statuses.failed_as_done options limit history (test_script text).commands (test_script text).stopped all written.ends

pub returns-clause-held_as_unmet : goal.returns-clause-held_as_unmet
returns-clause-held_as_unmet c options limit streams left left_after history text some all written =
    statuses.held_as_unmet options limit history (test_script text).commands (test_script text).stopped some all written.ends

pub returns-clause-whole_as_refused : goal.returns-clause-whole_as_refused
returns-clause-whole_as_refused c options limit streams left left_after history text whole written =
    statuses.whole_as_refused options limit history (test_script text).commands (test_script text).stopped whole written.ends
