-- The bytes that the places so far take alone are marked.
use Rattle.glob_automaton.specs.inner.Marks.{AreMarks}
use Rattle.glob_automaton.proofs.NamedSteps.{NamedBefore}
use Rattle.glob_automaton.proofs.marks.Marks.of.Given as goal

abbrev pub invariant-loop-place : goal.invariant-loop-place
invariant-loop-place l = record { named : NamedBefore l.chart l.set l.marks.named l.place-index; marks : AreMarks l.classes.least l.marks }
