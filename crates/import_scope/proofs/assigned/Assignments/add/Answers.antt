use Rattle.std.proofs.Common.{arith, List, Result, Ok, Err, map, sym, ap, ◌∙◌}
use Rattle.std.specs.Prelude.{OnOk}
use Rattle.apparmor_variables.specs.Variables.{Variable}
use Rattle.apparmor_variables.specs.inner.Known.{place_of}
use Rattle.import_scope.specs.Scopes.{with_values}
use Rattle.import_scope.proofs.VariablePlaces.{place_within, places_stay, values_added, nothing_added}
use Rattle.import_scope.proofs.assigned.Assignments.add.Goals as goal

on_ok_more : {A B : Type 0} {X E : Type 0} (r : Result X E) → (A → B) → OnOk r A → OnOk r B
on_ok_more (Ok x) f h = f h
on_ok_more (Err e) f h = tt

pub index_mut-requires : goal.index_mut-requires
index_mut-requires c =
    let vs = c.self.inside.variables in
    let below = place_within vs.items c.args.name.now c.in-Some.place
    (ap (λ (x : List Variable). place_of x c.args.name.now) c.self.view_is ∙ sym c.place.ensures ∙ c.in-Some.is) in
    let count = vs.ok.0 in
    omega (arith, below, count)

pub invariant_of-self : goal.invariant_of-self
invariant_of-self c = λ q. c.self.invariant q ∙ sym (places_stay c.self.inside.variables.items c.in-Some.place c.index_mut.result.now
    c.add.new.self c.index_mut.ensures.value c.add.ensures.name q)

pub returns-in-Some : goal.returns-in-Some
returns-in-Some c =
    let vs = c.self.inside.variables.items in
    let more = map (λ value. value.now) c.args.values.now in
    on_ok_more c.add.result
    (λ values. values_added vs c.args.name.now more c.in-Some.place c.index_mut.result.now c.add.new.self
    (ap (λ (x : List Variable). place_of x c.args.name.now) c.self.view_is ∙ sym c.place.ensures ∙ c.in-Some.is)
    c.index_mut.ensures.value c.add.ensures.name values
    ∙ ap (λ (x : List Variable). with_values x c.args.name.now more) c.self.view_is)
    c.add.ensures.values

pub returns-in-None : goal.returns-in-None
returns-in-None c = nothing_added c.args.self.now c.args.name.now (map (λ value. value.now) c.args.values.now)
    (sym c.place.ensures ∙ c.in-None.is)
