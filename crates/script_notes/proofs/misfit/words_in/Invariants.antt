-- The words that were gathered, and those that are left, are the line's.
use Rattle.std.proofs.Common.{◌≡◌, ◌++◌, length, map}
use Rattle.trace_script.specs.Script.{words_of}
use Rattle.script_notes.proofs.misfit.words_in.Given as goal

abbrev pub invariant-loop-word : goal.invariant-loop-word
invariant-loop-word l = map (λ word. word.now) l.words.items ++ l.left ≡ words_of l.fn.line

abbrev pub decreases-loop-word : goal.decreases-loop-word
decreases-loop-word l = length l.left
