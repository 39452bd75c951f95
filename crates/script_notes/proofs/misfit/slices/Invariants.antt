-- The first words are taken.
use Rattle.std.proofs.Common.{◌≡◌, map, take}
use Rattle.script_notes.proofs.misfit.slices.Given as goal

abbrev pub invariant-loop-word : goal.invariant-loop-word
invariant-loop-word l = map (λ slice. slice.now) l.slices.items ≡ map (λ word. word.items) (take l.word-index l.words)
