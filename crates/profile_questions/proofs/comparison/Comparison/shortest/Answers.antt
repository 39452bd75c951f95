-- The first visit of marked states has the least name, and without one there is no such name.
use Rattle.std.proofs.Common.{◌≡◌, ◌∙◌, ⊎_elim, ◌+◌, ◌≤◌, Bool, false, ℕ, List, [], Result, Ok, Err, Option, Some, None, IfOk, Vec, Global}
use Rattle.std.proofs.Common.{length, slice_get, slice_index_or, sym, ap, subst, arith}
use Rattle.std.proofs.lemmas.Bool.{cases_lt}
use Rattle.std.proofs.lemmas.Option.{none-some, same_Some, slice_get_within, slice_get-get_or}
use Rattle.automaton_rows.specs.Automata.{Automaton}
use Rattle.automaton_search.specs.declared.states.States.{States}
use Rattle.automaton_search.specs.Visits.{VisitsValue}
use Rattle.profile_questions.specs.declared.answer.Answer.{Answer}
use Rattle.profile_questions.specs.declared.answer.Answers.{Answers}
use Rattle.profile_questions.specs.Names.{ComparisonValue}
use Rattle.profile_questions.specs.Questions.{IsShortest, found_name}
use Rattle.profile_questions.specs.inner.Marks.{AreMarked, all_marked}
use Rattle.profile_questions.proofs.LeastNames.{NoneMarked, first_found, none_found}
use Rattle.profile_questions.proofs.comparison.Comparison.shortest.Goals as goal

-- the marks are of the automaton itself
marked : (a b : Automaton) (wanted : Answer) (marks : List Bool) → a ≡ b → AreMarked a wanted marks → AreMarked b wanted marks
marked a b wanted marks e are = subst (λ (z : Automaton). AreMarked z wanted marks) e are

-- past the last visit
past_last : (states : List States) (i : ℕ) → slice_get states i ≡ None → length states ≤ i
past_last states i none = ⊎_elim
    (λ lt. absurd (none-some (slice_index_or states i (record { first = 0; second = 0; third = 0 }))
    (sym none ∙ slice_get-get_or states i (record { first = 0; second = 0; third = 0 }) lt)))
    (λ le. le)
    (cases_lt i (length states))

none_more : (all : VisitsValue) (one two three : List Bool) (i : ℕ) (s : States) → slice_get all.states i ≡ Some s →
    all_marked one two three s ≡ false → NoneMarked all one two three i → NoneMarked all one two three (i + 1)
none_more all one two three i s at not none j t lt here = ⊎_elim
    (λ before. none j t before here)
    (λ from.
    let e : i ≡ j = omega (arith, lt, from) in
    subst (λ (z : States). all_marked one two three z ≡ false) (same_Some s t (sym at ∙ ap (slice_get all.states) e ∙ here)) not)
    (cases_lt j i)

if_name : {E : Type 0} (r : Result (Option (Vec ℕ Global)) E) (c : ComparisonValue) (answers : Answers) (at : Option (List ℕ)) →
    IfOk r (λ found. found_name found ≡ at) → IsShortest c answers at → IfOk r (λ found. IsShortest c answers (found_name found))
if_name {E} (Ok found) c answers at h is = subst (IsShortest c answers) (sym h) is
if_name {E} (Err e) c answers at h is = tt

pub loop-index-init : goal.loop-index-init
loop-index-init c j s lt at = absurd (omega (arith, lt))

pub returns-in_default : goal.returns-in_default
returns-in_default c =
    subst (λ (z : ComparisonValue). IsShortest z c.args.answers None) c.self.view_is
    (none_found c.self.inside.first.now c.self.inside.second.now c.self.inside.third.now c.self.inside.visits c.self.invariant
    c.args.answers
    c.in_ok-marks_of.field-0.items c.in_ok-marks_of-2.field-0.items c.in_ok-marks_of-3.field-0.items
    (marked _ _ c.args.answers.first c.in_ok-marks_of.field-0.items c.automaton.ensures.automaton c.in_ok-marks_of.ensures.marks)
    (marked _ _ c.args.answers.second c.in_ok-marks_of-2.field-0.items c.automaton-2.ensures.automaton c.in_ok-marks_of-2.ensures.marks)
    (marked _ _ c.args.answers.third c.in_ok-marks_of-3.field-0.items c.automaton-3.ensures.automaton c.in_ok-marks_of-3.ensures.marks)
    c.loop-index.index (past_last c.self.inside.visits.states c.loop-index.index (sym c.states.ensures ∙ c.in_default.is))
    c.loop-index.invariant)

pub are_set-requires-clause-first : goal.are_set-requires-clause-first
are_set-requires-clause-first c =
    let there = (c.self.invariant.visits.there c.loop-index.index c.in-Some.states (sym c.states.ensures ∙ c.in-Some.is)).0 in
    omega (arith, there, c.in_ok-marks_of.ensures.long, ap (λ (a : Automaton). length a.rows) c.automaton.ensures.automaton)

pub are_set-requires-clause-second : goal.are_set-requires-clause-second
are_set-requires-clause-second c =
    let there = (c.self.invariant.visits.there c.loop-index.index c.in-Some.states (sym c.states.ensures ∙ c.in-Some.is)).1 in
    omega (arith, there, c.in_ok-marks_of-2.ensures.long, ap (λ (a : Automaton). length a.rows) c.automaton-2.ensures.automaton)

pub are_set-requires-clause-third : goal.are_set-requires-clause-third
are_set-requires-clause-third c =
    let there = (c.self.invariant.visits.there c.loop-index.index c.in-Some.states (sym c.states.ensures ∙ c.in-Some.is)).2 in
    omega (arith, there, c.in_ok-marks_of-3.ensures.long, ap (λ (a : Automaton). length a.rows) c.automaton-3.ensures.automaton)

pub returns-then-are_set : goal.returns-then-are_set
returns-then-are_set c =
    let all = c.self.inside.visits in
    let at : slice_get all.states c.loop-index.index ≡ Some c.in-Some.states = sym c.states.ensures ∙ c.in-Some.is in
    let name : List ℕ = slice_index_or all.names c.loop-index.index [] in
    let named : slice_get all.names c.loop-index.index ≡ Some name = slice_get-get_or all.names c.loop-index.index []
    (omega (arith, slice_get_within all.states c.loop-index.index c.in-Some.states at, c.self.invariant.visits.each)) in
    if_name c.name_at.result c.args.self.now c.args.answers (slice_get all.names c.loop-index.index) c.name_at.ensures
    (subst (λ (o : Option (List ℕ)). IsShortest c.args.self.now c.args.answers o) (sym named)
    (subst (λ (z : ComparisonValue). IsShortest z c.args.answers (Some name)) c.self.view_is
    (first_found c.self.inside.first.now c.self.inside.second.now c.self.inside.third.now all c.self.invariant
    c.args.answers
    c.in_ok-marks_of.field-0.items c.in_ok-marks_of-2.field-0.items c.in_ok-marks_of-3.field-0.items
    (marked _ _ c.args.answers.first c.in_ok-marks_of.field-0.items c.automaton.ensures.automaton c.in_ok-marks_of.ensures.marks)
    (marked _ _ c.args.answers.second c.in_ok-marks_of-2.field-0.items c.automaton-2.ensures.automaton c.in_ok-marks_of-2.ensures.marks)
    (marked _ _ c.args.answers.third c.in_ok-marks_of-3.field-0.items c.automaton-3.ensures.automaton c.in_ok-marks_of-3.ensures.marks)
    c.loop-index.index c.in-Some.states name at named (sym c.are_set.ensures ∙ c.if-are_set.true) c.loop-index.invariant)))

pub loop-index-preserved : goal.loop-index-preserved
loop-index-preserved c =
    none_more c.self.inside.visits c.in_ok-marks_of.field-0.items c.in_ok-marks_of-2.field-0.items c.in_ok-marks_of-3.field-0.items
    c.loop-index.index c.in-Some.states (sym c.states.ensures ∙ c.in-Some.is) (sym c.are_set.ensures ∙ c.if-are_set.false)
    c.loop-index.invariant

pub returns : goal.returns
returns c =
    subst (λ (z : ComparisonValue). IsShortest z c.args.answers None) c.self.view_is
    (none_found c.self.inside.first.now c.self.inside.second.now c.self.inside.third.now c.self.inside.visits c.self.invariant
    c.args.answers
    c.in_ok-marks_of.field-0.items c.in_ok-marks_of-2.field-0.items c.in_ok-marks_of-3.field-0.items
    (marked _ _ c.args.answers.first c.in_ok-marks_of.field-0.items c.automaton.ensures.automaton c.in_ok-marks_of.ensures.marks)
    (marked _ _ c.args.answers.second c.in_ok-marks_of-2.field-0.items c.automaton-2.ensures.automaton c.in_ok-marks_of-2.ensures.marks)
    (marked _ _ c.args.answers.third c.in_ok-marks_of-3.field-0.items c.automaton-3.ensures.automaton c.in_ok-marks_of-3.ensures.marks)
    c.loop-index.index (omega (arith, c.loop-index-test.false, c.len-index-end.ensures)) c.loop-index.invariant)
