-- The records of the visit's states are the least hits of its name.
use Rattle.std.proofs.Common.{◌≡◌, ℕ, List, Some, slice_get, sym, ap, ◌∙◌, subst}
use Rattle.automaton_rows.specs.Automata.{Automaton}
use Rattle.profile_questions.specs.declared.comparison.Records.{Records}
use Rattle.profile_questions.specs.Names.{AreLeastHits, ComparisonValue}
use Rattle.profile_questions.proofs.Representatives.{least_hits}
use Rattle.profile_questions.proofs.comparison.Comparison.records.Goals as goal

pub returns-clause-some : goal.returns-clause-some
returns-clause-some c =
    let states = c.in_ok-states.states in
    let hits : Records = record { first = c.record_at.result; second = c.record_at-2.result; third = c.record_at-3.result } in
    subst (λ (z : ComparisonValue). (name : List ℕ) × (slice_get z.names c.args.index ≡ Some name) × AreLeastHits z name hits)
    c.self.view_is
    (least_hits c.self.inside.first.now c.self.inside.second.now c.self.inside.third.now c.self.inside.visits c.self.invariant
    c.args.index states hits (sym c.states.ensures ∙ c.in_ok-states.was)
    (ap (λ (a : Automaton). slice_get a.records states.first) (sym c.automaton.ensures.automaton) ∙ c.record_at.ensures)
    (ap (λ (a : Automaton). slice_get a.records states.second) (sym c.automaton-2.ensures.automaton) ∙ c.record_at-2.ensures)
    (ap (λ (a : Automaton). slice_get a.records states.third) (sym c.automaton-3.ensures.automaton) ∙ c.record_at-3.ensures))
