-- The bytes so far, and the words of what is left.
use Rattle.std.proofs.Common.{◌≡◌, ◌≤◌, [], length}
use Rattle.test_script.specs.TestScript.{quoted, words_from}
use Rattle.test_script.proofs.quotes.quoted_word.Given as goal

abbrev pub invariant-loop-left : goal.invariant-loop-left
invariant-loop-left l = record {
  reads : words_from (quoted l.word.items) l.left ≡ words_from (quoted []) l.fn.bytes;
  shorter : length l.left ≤ length l.fn.bytes;
}

abbrev pub decreases-loop-left : goal.decreases-loop-left
decreases-loop-left l = length l.left
