-- The first visit.
use Rattle.std.proofs.Common.{◌≡◌, ⊎_elim, ◌∙◌, ◌++◌, ◌∷◌, [], ◌<◌, ℕ, List, length, refl, sym, ap, subst, arith}
use Rattle.std.proofs.lemmas.Option.{slice_get_within}
use Rattle.automaton_search.specs.declared.states.States.{States}
use Rattle.automaton_search.specs.declared.walk.Trail.{Trail}
use Rattle.automaton_search.specs.Visits.{next_states, start_states}
use Rattle.automaton_search.specs.inner.Walks.{IsVisited, IsWalkAt, states_of}
use Rattle.automaton_search.specs.laws.Lists.{is_empty}
use Rattle.automaton_search.proofs.ThreeStates.{states}
use Rattle.automaton_search.proofs.WalkSteps.{first_visit}
use Rattle.automaton_search.proofs.walk.begin.Goals as goal

module _ {K : Type 0} (next : K → ℕ → K) (start : K) (t : Trail) (slashed : t.byte ≡ 47) (states new : List K) (trails more : List Trail)
    (none : length states ≡ 0) (empty : length trails ≡ 0) (way : IsVisited states trails new more (next start 47) t) where
  begun : IsWalkAt next start new more 0 0
  begun = ⊎_elim
      (λ h. let lt = slice_get_within states h.0.0 (next start 47) h.0.1 in absurd (omega (arith, lt, none)))
      (λ h. subst (λ (z : List K). IsWalkAt next start z more 0 0)
      (sym (h.0 ∙ ap (λ (z : List K). z ++ next start 47 ∷ []) (is_empty states none)))
      (subst (λ (z : List Trail). IsWalkAt next start (next start 47 ∷ []) z 0 0)
      (sym (h.1 ∙ ap (λ (z : List Trail). z ++ t ∷ []) (is_empty trails empty)))
      (first_visit next start t slashed)))
      way

  some_visit : 0 < length new
  some_visit = ⊎_elim
      (λ h. let lt = slice_get_within states h.0.0 (next start 47) h.0.1 in absurd (omega (arith, lt, none)))
      (λ h. subst (λ (z : List K). 0 < length z) (sym (h.0 ∙ ap (λ (z : List K). z ++ next start 47 ∷ []) (is_empty states none)))
      (omega arith))
      way

abbrev next : goal.In_ok-reach → States → ℕ → States
next c = next_states c.args.first.now c.args.second.now c.args.third.now

abbrev start : goal.In_ok-reach → States
start c = start_states c.args.first.now c.args.second.now c.args.third.now

-- the states after a slash are those that are visited
slash_states : (c : goal.In_ok-reach) → states c.target.result c.target-2.result c.target-3.result ≡ next c (start c) 47
slash_states c = cc (
  c.target.ensures.target,
  c.target-2.ensures.target,
  c.target-3.ensures.target,
  c.start.ensures.start,
  c.start-2.ensures.start,
  c.start-3.ensures.start,
)

first : (c : goal.In_ok-reach) → IsVisited (states_of c.in_ok-walk.walk) c.in_ok-walk.walk.trails.items (states_of c.reach.new.self)
    c.reach.new.self.trails.items (states c.target.result c.target-2.result c.target-3.result) (record { parent = 0; byte = 47 }) →
    IsVisited (states_of c.in_ok-walk.walk) c.in_ok-walk.walk.trails.items (states_of c.reach.new.self)
    c.reach.new.self.trails.items (next c (start c) 47) (record { parent = 0; byte = 47 })
first c = subst (λ (s : States). IsVisited (states_of c.in_ok-walk.walk) c.in_ok-walk.walk.trails.items
    (states_of c.reach.new.self) c.reach.new.self.trails.items s (record { parent = 0; byte = 47 })) (slash_states c)

pub returns-clause-walk : goal.returns-clause-walk
returns-clause-walk c =
    begun (next c) (start c) (record { parent = 0; byte = 47 }) refl (states_of c.in_ok-walk.walk) (states_of c.reach.new.self)
    c.in_ok-walk.walk.trails.items c.reach.new.self.trails.items c.in_ok-walk.ensures.states c.in_ok-walk.ensures.trails
    (first c c.in_ok-reach.ensures.visited)

pub returns-clause-some : goal.returns-clause-some
returns-clause-some c =
    some_visit (next c) (start c) (record { parent = 0; byte = 47 }) refl (states_of c.in_ok-walk.walk) (states_of c.reach.new.self)
    c.in_ok-walk.walk.trails.items c.reach.new.self.trails.items c.in_ok-walk.ensures.states c.in_ok-walk.ensures.trails
    (first c c.in_ok-reach.ensures.visited)
