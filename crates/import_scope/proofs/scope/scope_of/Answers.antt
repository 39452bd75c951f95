use Rattle.std.proofs.Common.{◌≡◌, List, Option, None, map, sym, ap, ◌∙◌, subst, option_map}
use Rattle.apparmor_text.specs.Parts.{ItemValue}
use Rattle.apparmor_variables.specs.Variables.{Variable}
use Rattle.apparmor_variables.proofs.Places.{first_of_two}
use Rattle.import_scope.specs.declared.fault.ScopeFault.{ScopeFault}
use Rattle.import_scope.specs.FirstFaults.{FirstFault, nothing_counted}
use Rattle.import_scope.specs.Overrides.{items_given}
use Rattle.import_scope.specs.Scopes.{ScopeState, Head, Fault, at_start}
use Rattle.import_scope.specs.Told.{fault_value}
use Rattle.import_scope.specs.inner.Outlines.{AskedValue, asked_value, last_state, head_stop, all_asked}
use Rattle.import_scope.specs.inner.Problems.{FirstProblem}
use Rattle.import_scope.proofs.Passes.{both_passes}
use Rattle.import_scope.specs.laws.Extensions.{AreNamed, last_is_behind, named_last}
use Rattle.import_scope.proofs.scope.scope_of.Goals as goal

-- the first fault, of what the passes gave
passed : (s : ScopeState) (all : List ItemValue) (state : ScopeState) (variables : List Variable) (heads : List Head)
    (asked : List AskedValue) (problem stop : Option Fault)
    → state ≡ last_state s all → variables ≡ state.declared → heads ≡ state.profiles → asked ≡ all_asked s all → stop ≡ head_stop s all
    → FirstProblem variables heads nothing_counted asked problem → FirstFault s all (first_of_two problem stop)
passed s all state variables heads asked problem stop is vs hs asks ends h =
    let t = last_state s all in
    let a : FirstProblem t.declared heads nothing_counted asked problem =
    subst (λ (x : List Variable). FirstProblem x heads nothing_counted asked problem)
    (vs ∙ ap (λ (x : ScopeState). x.declared) is) h in
    let b : FirstProblem t.declared t.profiles nothing_counted asked problem =
    subst (λ (x : List Head). FirstProblem t.declared x nothing_counted asked problem)
    (hs ∙ ap (λ (x : ScopeState). x.profiles) is) a in
    let d : FirstProblem t.declared t.profiles nothing_counted (all_asked s all) problem =
    subst (λ (x : List AskedValue). FirstProblem t.declared t.profiles nothing_counted x problem) asks b in
    subst (λ (x : Option Fault). FirstFault s all (first_of_two problem x)) (sym ends) (both_passes s nothing_counted all problem d)

-- if no fault was returned, there is no stop
no_stop : (s : ScopeState) (all : List ItemValue) (stop : Option ScopeFault) → option_map fault_value stop ≡ head_stop s all →
    stop ≡ None → head_stop s all ≡ None
no_stop s all stop e none = sym e ∙ ap (option_map fault_value) none

pub returns-in-Some-clause-fault : goal.returns-in-Some-clause-fault
returns-in-Some-clause-fault c =
    let g = c.in_ok-outline.ensures in
    let s = at_start c.args.defines.now in
    let all = items_given c.args.overrides c.args.defines.now c.args.items.now in
    let p = passed s all _ c.deref.result.now c.deref-2.result.now (map asked_value c.deref-3.result.now)
    (option_map fault_value c.in_ok-fault.field-0) _ g.state (c.deref.ensures.value ∙ c.in_ok-variables.ensures)
    c.deref-2.ensures.value (ap (map asked_value) c.deref-3.ensures.value ∙ g.asked) g.stop c.in_ok-fault.ensures in
    subst (λ (o : Option ScopeFault). FirstFault s all
    (first_of_two (option_map fault_value o) (option_map fault_value c.in_ok-outline.stop))) c.in-Some.is p

pub returns-in-Some-stop-clause-fault : goal.returns-in-Some-stop-clause-fault
returns-in-Some-stop-clause-fault c =
    let g = c.in_ok-outline.ensures in
    let s = at_start c.args.defines.now in
    let all = items_given c.args.overrides c.args.defines.now c.args.items.now in
    let p = passed s all _ c.deref.result.now c.deref-2.result.now (map asked_value c.deref-3.result.now)
    (option_map fault_value c.in_ok-fault.field-0) _ g.state (c.deref.ensures.value ∙ c.in_ok-variables.ensures)
    c.deref-2.ensures.value (ap (map asked_value) c.deref-3.ensures.value ∙ g.asked) g.stop c.in_ok-fault.ensures in
    rw (c.in_default.is, c.in-Some-stop.is) at p

pub returns-clause-faultless : goal.returns-clause-faultless
returns-clause-faultless c =
    let g = c.in_ok-outline.ensures in
    let s = at_start c.args.defines.now in
    let all = items_given c.args.overrides c.args.defines.now c.args.items.now in
    let p = passed s all _ c.deref.result.now c.deref-2.result.now (map asked_value c.deref-3.result.now)
    (option_map fault_value c.in_ok-fault.field-0) _ g.state (c.deref.ensures.value ∙ c.in_ok-variables.ensures)
    c.deref-2.ensures.value (ap (map asked_value) c.deref-3.ensures.value ∙ g.asked) g.stop c.in_ok-fault.ensures in
    rw (c.in_default.is, c.in-None.is) at p

pub returns-clause-variables : goal.returns-clause-variables
returns-clause-variables c =
    let g = c.in_ok-outline.ensures in
    let s = at_start c.args.defines.now in
    let all = items_given c.args.overrides c.args.defines.now c.args.items.now in
    c.in_ok-variables.ensures ∙ ap (λ (x : ScopeState). x.declared)
    (g.state ∙ last_is_behind s all (no_stop s all c.in_ok-outline.stop g.stop c.in-None.is))

pub returns-clause-profiles : goal.returns-clause-profiles
returns-clause-profiles c =
    let g = c.in_ok-outline.ensures in
    let s = at_start c.args.defines.now in
    let all = items_given c.args.overrides c.args.defines.now c.args.items.now in
    ap (λ (x : ScopeState). x.profiles)
    (g.state ∙ last_is_behind s all (no_stop s all c.in_ok-outline.stop g.stop c.in-None.is))

pub returns-clause-names : goal.returns-clause-names
returns-clause-names c =
    let g = c.in_ok-outline.ensures in
    subst (λ (x : ScopeState). AreNamed x.profiles) (sym g.state) (named_last (at_start c.args.defines.now)
    (items_given c.args.overrides c.args.defines.now c.args.items.now) tt)
