-- The rest of the word leads to the same result as the whole word.
use Rattle.std.proofs.Common.{◌≡◌, drop}
use Rattle.trace_steps.specs.inner.Numbers.{with_digits}
use Rattle.trace_steps.proofs.numbers.number_of.Given as goal

abbrev pub invariant-loop-byte : goal.invariant-loop-byte
invariant-loop-byte l = with_digits l.number (drop l.byte-index l.word) ≡ with_digits 0 l.word
