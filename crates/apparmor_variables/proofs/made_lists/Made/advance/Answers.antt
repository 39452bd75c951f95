use Rattle.std.proofs.Common.{◌≡◌, [], reverse, set, Option, Some, None, refl, sym, ap, ◌∙◌, subst, inl, arith}
use Rattle.std.specs.Prelude.{unwrap_or}
use Rattle.std.proofs.lemmas.Result.{err_from_is_err_and}
use Rattle.apparmor_variables.specs.Variables.{Variable, list_of_values, names_needed}
use Rattle.apparmor_variables.specs.Problems.{Problem, HasProblem, too_long}
use Rattle.apparmor_variables.specs.Faults.{Tells}
use Rattle.apparmor_variables.specs.declared.refusal.Refusal.{Refusal}
use Rattle.apparmor_variables.specs.declared.refusal.Refusal.TheVariants.{Nothing, NoMemory}
use Rattle.apparmor_variables.specs.inner.Gives.{Refuses, fault_of}
use Rattle.apparmor_variables.specs.inner.Known.{known_in}
use Rattle.apparmor_variables.specs.inner.Way.{Lists, KnowsAll, AreKnown, variable_at, needed_at, made_count, IsWay}
use Rattle.apparmor_variables.proofs.WayMade.{count_made, known_stays, step_off, too_long_first}
use Rattle.apparmor_variables.proofs.made_lists.Made.advance.Goals as goal

-- what a refusal says
told : {A : Type 0} (IsProblem : Problem → Type 0) (refusal : Refusal) (o : Option A) → (o ≡ None → IsProblem too_long) →
    Refuses refusal o → Tells IsProblem (fault_of refusal)
told IsProblem Nothing o f h = f h
told IsProblem NoMemory o f h = tt

pub returns-in_err-finish-in-None-clause-fault : goal.returns-in_err-finish-in-None-clause-fault
returns-in_err-finish-in-None-clause-fault g c =
    let variables = c.args.declared.now in
    let made = c.args.self.now in
    let place = c.args.step.variable in
    let at : c.variable.result.now ≡ variable_at variables place =
    sym (ap (λ o. unwrap_or o (record { name = []; values = [] })) c.variable.ensures) in
    let all : AreKnown (known_in variables made.lists.items) (needed_at variables place) =
    subst (λ lists. AreKnown (known_in variables lists) (needed_at variables place)) c.deref.ensures.value
    (subst (AreKnown (known_in variables c.deref.result.now)) (c.needed-names.ensures ∙ ap (λ (v : Variable). names_needed v.values) at)
    (c.in-None.ensures.none refl)) in
    let p = err_from_is_err_and c.from_residual-in_err-finish-in-None.result c.from_residual-in_err-finish-in-None.ensures.1 in
    rw (p.1, p.2)
    (told (HasProblem variables [] g.first) c.in_err-finish-in-None.field-0.0 (list_of_values (known_in variables made.lists.items)
    (variable_at variables place).values)
    (too_long_first variables made.lists.items made.met.items g.first c.requires.0.levels c.requires.0.right (reverse c.args.way.now.items)
    c.args.step c.requires.1.0 c.requires.1.1 all)
    c.in_err-finish-in-None.ensures.refused)

pub returns-in_ok-finish-in-None-clause-more : goal.returns-in_ok-finish-in-None-clause-more
returns-in_ok-finish-in-None-clause-more g c =
    let variables = c.args.declared.now in
    let old = c.args.self.now.lists.items in
    let made = c.in_ok-finish-in-None.ensures.made in
    subst (λ (lists : Lists). KnowsAll (known_in variables old) (known_in variables lists)) (sym made.1)
    (known_stays old c.args.step.variable made.0 c.requires.1.0.unmade variables)

pub returns-in_ok-finish-in-None-clause-way : goal.returns-in_ok-finish-in-None-clause-way
returns-in_ok-finish-in-None-clause-way g c =
    let variables = c.args.declared.now in
    let old = c.args.self.now.lists.items in
    let before = reverse c.args.way.now.items in
    let made = c.in_ok-finish-in-None.ensures.made in
    subst (λ (lists : Lists). IsWay variables lists c.finish.new.self.met.items g.first before) (sym made.1)
    (subst (λ met. IsWay variables (set old c.args.step.variable (Some made.0)) met g.first before)
    (sym c.in_ok-finish-in-None.ensures.met) (step_off old c.args.step.variable made.0 c.requires.1.0.unmade variables
    c.args.self.now.met.items g.first before c.requires.1.0.met_at c.requires.1.0.named c.requires.1.1))

pub returns-in_ok-finish-in-None-clause-nearer : goal.returns-in_ok-finish-in-None-clause-nearer
returns-in_ok-finish-in-None-clause-nearer g c =
    let old = c.args.self.now.lists.items in
    let made = c.in_ok-finish-in-None.ensures.made in
    inl (ap made_count made.1 ∙ count_made old c.args.step.variable made.0 c.requires.1.0.unmade ∙ omega arith, refl)
