-- The first visit of states that are marked.
use Rattle.std.proofs.Common.{◌≡◌, inl, inr, ⊎_elim, ℕ, ◌<◌, ◌≤◌, ◌&&◌, Bool, true, false, true≢false, List, length, Some, None}
use Rattle.std.proofs.Common.{slice_get, slice_index_or, sym, ap, ◌∙◌, subst, arith}
use Rattle.std.proofs.lemmas.Bool.{and_parts, and_from, cases_lt}
use Rattle.std.proofs.lemmas.Option.{same_Some, slice_get_within}
use Rattle.names.specs.Bytes.{are_bytes}
use Rattle.names.specs.Paths.{IsName}
use Rattle.automaton_rows.specs.Automata.{state_after}
use Rattle.automaton_search.specs.declared.states.States.{States}
use Rattle.automaton_search.specs.Visits.{VisitsValue, states_after}
use Rattle.automaton_search.specs.laws.Orders.{at_most_through}
use Rattle.profile_questions.specs.declared.answer.Answers.{Answers}
use Rattle.profile_questions.specs.Names.{CompiledValue}
use Rattle.profile_questions.specs.Questions.{IsFound, IsShortest}
use Rattle.profile_questions.specs.inner.Comparisons.{IsComparison, compared}
use Rattle.profile_questions.specs.inner.Marks.{AreMarked, all_marked}
use Rattle.profile_questions.specs.laws.RecordAnswers.{marked_answer}

-- no visit before this one is of marked states
abbrev pub NoneMarked : VisitsValue → List Bool → List Bool → List Bool → ℕ → Type 0
NoneMarked all one two three i =
    (j : ℕ) (s : States) → j < i → slice_get all.states j ≡ Some s → all_marked one two three s ≡ false

pub name_bytes : (name : List ℕ) → IsName name → are_bytes name
name_bytes name is = λ k d lt. (is.1 k d lt).1

module _ (first second third : CompiledValue) (all : VisitsValue) (is : IsComparison first second third all) (answers : Answers)
    (one two three : List Bool) (in_first : AreMarked first.automaton answers.first one)
    (in_second : AreMarked second.automaton answers.second two) (in_third : AreMarked third.automaton answers.third three) where
  marked_found : (name : List ℕ) → IsName name →
      all_marked one two three (states_after first.automaton second.automaton third.automaton name) ≡ true →
      IsFound (compared first second third all) answers name
  marked_found name is_name marked =
      let bytes = name_bytes name is_name in
      let both = and_parts (slice_index_or one (state_after first.automaton name) false
      && slice_index_or two (state_after second.automaton name) false)
      (slice_index_or three (state_after third.automaton name) false) marked in
      let parts = and_parts (slice_index_or one (state_after first.automaton name) false)
      (slice_index_or two (state_after second.automaton name) false) both.0 in
      record {
        is_name = is_name;
        first = (marked_answer _ first.automaton answers.first one name is.first in_first bytes).0 parts.0;
        second = (marked_answer _ second.automaton answers.second two name is.second in_second bytes).0 parts.1;
        third = (marked_answer _ third.automaton answers.third three name is.third in_third bytes).0 both.1;
      }

  found_marked : (name : List ℕ) → IsFound (compared first second third all) answers name →
      all_marked one two three (states_after first.automaton second.automaton third.automaton name) ≡ true
  found_marked name found =
      let bytes = name_bytes name found.is_name in
      and_from (slice_index_or one (state_after first.automaton name) false
      && slice_index_or two (state_after second.automaton name) false)
      (slice_index_or three (state_after third.automaton name) false)
      (and_from (slice_index_or one (state_after first.automaton name) false)
      (slice_index_or two (state_after second.automaton name) false)
      ((marked_answer _ first.automaton answers.first one name is.first in_first bytes).1 found.first)
      ((marked_answer _ second.automaton answers.second two name is.second in_second bytes).1 found.second))
      ((marked_answer _ third.automaton answers.third three name is.third in_third bytes).1 found.third)

  -- all visits have been gone over
  pub none_found : (i : ℕ) → length all.states ≤ i → NoneMarked all one two three i →
      IsShortest (compared first second third all) answers None
  none_found i whole none = λ name found.
      let visit = is.visits.complete name found.is_name in
      let lt = slice_get_within all.states visit.0 _ visit.2.0 in
      true≢false (sym (found_marked name found) ∙ none visit.0 _ (omega (arith, lt, whole)) visit.2.0)

  -- the first visit of marked states
  pub first_found : (i : ℕ) (s : States) (name : List ℕ) → slice_get all.states i ≡ Some s → slice_get all.names i ≡ Some name →
      all_marked one two three s ≡ true → NoneMarked all one two three i → IsShortest (compared first second third all) answers (Some name)
  first_found i s name at named marked none =
      let by = is.visits.named i s name (at, named) in (
        marked_found name by.0 (subst (λ (t : States). all_marked one two three t ≡ true) by.1 marked),
        λ other found.
            let visit = is.visits.complete other found.is_name in
            at_most_through name visit.1 other
            (⊎_elim
            (λ before. absurd (true≢false (sym (found_marked other found) ∙ none visit.0 _ before visit.2.0)))
            (λ from. ⊎_elim
            (λ later. inr (is.visits.ascending i visit.0 name visit.1 later named visit.2.1))
            (λ not_later.
            let e : visit.0 ≡ i = omega (arith, from, not_later) in
            inl (same_Some name visit.1 (sym named ∙ ap (slice_get all.names) (sym e) ∙ visit.2.1)))
            (cases_lt i visit.0))
            (cases_lt visit.0 i))
            visit.3,
      )
