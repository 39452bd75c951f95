-- The computed names are names of the trails.
use Rattle.std.proofs.Common.{◌≡◌, ◌<◌, ℕ, List, [], Result, Ok, Err, IfOk, Some, Vec, Global, length, slice_get, sym, subst, arith}
use Rattle.automaton_search.specs.declared.walk.Trail.{Trail}
use Rattle.automaton_search.specs.inner.Trails.{AreNames, names_from}
use Rattle.automaton_search.specs.Visits.{VisitsValue}
use Rattle.automaton_search.proofs.TrailNames.{are_named}
use Rattle.automaton_search.proofs.visits.Visits.name.Goals as goal

by_computed : {E : Type 0} (r : Result (Vec ℕ Global) E) (trails : List Trail) (names : List (List ℕ)) (index : ℕ) →
    AreNames trails names → IfOk r (λ name. (names : List (List ℕ)) → AreNames trails names → slice_get names index ≡ Some name.items) →
    IfOk r (λ name. slice_get names index ≡ Some name.items)
by_computed {E} (Ok name) trails names index are h = h names are
by_computed {E} (Err e) trails names index are h = tt

pub returns : goal.returns
returns c =
    let trails = c.self.inside.walk.trails.items in
    let long : c.args.index < length c.self.inside.walk.states.keys =
    subst (λ (v : VisitsValue). c.args.index < length v.states) (sym c.self.view_is) c.requires in
    subst (λ (v : VisitsValue). IfOk c.name_of.result (λ name. slice_get v.names c.args.index ≡ Some name.items)) c.self.view_is
    (by_computed c.name_of.result trails (names_from [] trails) c.args.index
    (are_named trails (omega (arith, long, c.self.invariant.0)) c.self.invariant.1)
    (subst (λ (t : List Trail). IfOk c.name_of.result (λ name. (names : List (List ℕ)) → AreNames t names →
    slice_get names c.args.index ≡ Some name.items)) c.deref.ensures.value c.name_of.ensures))
