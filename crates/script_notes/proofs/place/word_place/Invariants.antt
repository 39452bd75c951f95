-- The line from the word on is what is left of it after as many words as are left to pass.
use Rattle.std.proofs.Common.{◌≡◌, drop}
use Rattle.std.specs.List.{prefix_len}
use Rattle.trace_script.specs.Script.{is_blank}
use Rattle.script_notes.specs.Forms.{after_words}
use Rattle.script_notes.proofs.place.word_place.Given as goal

abbrev pub invariant-loop-left : goal.invariant-loop-left
invariant-loop-left l = after_words l.left l.from ≡ after_words l.word (drop (prefix_len is_blank l.line) l.line)

abbrev pub decreases-loop-left : goal.decreases-loop-left
decreases-loop-left l = l.left
