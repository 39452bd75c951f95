-- The states so far are marked.
use Rattle.std.proofs.Common.{◌≡◌, ◌↔◌, ◌<◌, ℕ, Some, true, false, length, slice_get, slice_index_or}
use Rattle.names.specs.declared.record.Record.{Record}
use Rattle.profile_questions.specs.Questions.{IsToldAs}
use Rattle.profile_questions.proofs.marks.marks_of.Given as goal

abbrev pub invariant-loop-state : goal.invariant-loop-state
invariant-loop-state l = record {
  long : length l.marks.items ≡ l.state;
  marks : (s : ℕ) (r : Record) → s < l.state → slice_get l.automaton.records s ≡ Some r →
      (slice_index_or l.marks.items s false ≡ true) ↔ IsToldAs l.answer r;
}
