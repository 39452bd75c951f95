-- Which states' records say what is wanted of the names that lead to them.
use Rattle.std.specs.Prelude.{◌≡◌, ◌↔◌, ◌&&◌, ℕ, Bool, true, false, List, Some, slice_get, slice_index_or}
use Rattle.names.specs.declared.record.Record.{Record}
use Rattle.automaton_rows.specs.Automata.{Automaton}
use Rattle.automaton_search.specs.declared.states.States.{States}
use Rattle.profile_questions.specs.declared.answer.Answer.{Answer}
use Rattle.profile_questions.specs.Questions.{IsToldAs}

-- an entry for each state, which says whether its record says so
abbrev pub AreMarked : Automaton → Answer → List Bool → Type 0
AreMarked a wanted marks = (s : ℕ) (r : Record) → slice_get a.records s ≡ Some r →
    (slice_index_or marks s false ≡ true) ↔ IsToldAs wanted r

-- all three states are marked
abbrev pub all_marked : List Bool → List Bool → List Bool → States → Bool
all_marked one two three s = slice_index_or one s.first false && slice_index_or two s.second false && slice_index_or three s.third false
