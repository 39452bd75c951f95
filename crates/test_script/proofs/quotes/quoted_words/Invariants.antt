-- The words that were gathered, and those of what is left, are the line's.
use Rattle.std.proofs.Common.{◌≡◌, length, map}
use Rattle.std.specs.List.{prefix_len}
use Rattle.trace_script.specs.Script.{is_blank}
use Rattle.test_script.specs.TestScript.{quoted_words}
use Rattle.test_script.specs.laws.WordReads.{with_words}
use Rattle.test_script.proofs.quotes.quoted_words.Given as goal

abbrev pub invariant-loop-left : goal.invariant-loop-left
invariant-loop-left l = record {
  gathered : with_words (map (λ word. word.items) l.words.items) (quoted_words l.left) ≡ quoted_words l.fn.line;
  at_word : prefix_len is_blank l.left ≡ 0;
}

abbrev pub decreases-loop-left : goal.decreases-loop-left
decreases-loop-left l = length l.left
