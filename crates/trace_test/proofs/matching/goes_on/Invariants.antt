-- What is left of the text is compared with what is left of the answer.
use Rattle.std.proofs.Common.{◌≡◌, length}
use Rattle.trace_test.specs.Expectations.{goes_on}
use Rattle.trace_test.proofs.matching.goes_on.Given as goal

abbrev pub invariant-loop-text : goal.invariant-loop-text
invariant-loop-text l = goes_on l.text l.answer ≡ goes_on l.fn.expected l.fn.got

abbrev pub decreases-loop-text : goal.decreases-loop-text
decreases-loop-text l = length l.text
