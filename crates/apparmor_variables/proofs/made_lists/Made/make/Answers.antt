use Rattle.std.proofs.Common.{◌≡◌, ◌+◌, ◌<◌, ◌≤◌, ℕ, List, [], ◌∷◌, ◌++◌, length, reverse, sym, ap, ◌∙◌, subst, ⊎_elim, arith}
use Rattle.std.proofs.lemmas.List.{length-reverse, length-append}
use Rattle.std.proofs.lemmas.Result.{err_from_is_err_and}
use Rattle.apparmor_pieces.specs.Pieces.{Text}
use Rattle.apparmor_variables.specs.Variables.{Variable}
use Rattle.apparmor_variables.specs.Problems.{HasProblem}
use Rattle.apparmor_variables.specs.Faults.{Tells}
use Rattle.apparmor_variables.specs.declared.made_lists.Step.{Step}
use Rattle.apparmor_variables.specs.inner.Way.{Lists, made_count, variable_at, Waits, IsWay, IsNearer, first_name}
use Rattle.apparmor_variables.proofs.WaySteps.{pushed}
use Rattle.apparmor_variables.proofs.WayMade.{count_few}
use Rattle.apparmor_variables.proofs.WayShort.{short, asked_first, left_to_do, one_list_more, one_step_more}
use Rattle.apparmor_variables.proofs.made_lists.Made.make.Goals as goal

-- the way with its last step first
taken : (variables : List Variable) (lists : Lists) (met : List ℕ) (first : Text) (way before : List Step) (step : Step) →
    way ≡ before ++ step ∷ [] → IsWay variables lists met first (reverse way)
    → IsWay variables lists met first (step ∷ reverse before)
taken variables lists met first way before step is h = subst (IsWay variables lists met first) (ap reverse is ∙ sym (pushed before step)) h

asked : (variables : List Variable) (lists : Lists) (met : List ℕ) (first : Text) (way before : List Step) (step : Step) →
    way ≡ before ++ step ∷ [] → IsWay variables lists met first (reverse way)
    → first_name variables (reverse before) (variable_at variables step.variable).name ≡ first
asked variables lists met first way before step is h = asked_first variables lists met first (reverse before) step
    (taken variables lists met first way before step is h)

pub advance-requires : goal.advance-requires
advance-requires c =
    let variables = c.args.declared.now in
    let lists = c.loop-step.self.lists.items in
    let met = c.loop-step.self.met.items in
    let before = c.pop.new.self.items in
    let step = c.in-Some.step in
    let way = taken variables lists met c.args.name.now c.loop-step.way.items before step c.in-Some.ensures.items
    c.loop-step.invariant.way in
    let first = asked variables lists met c.args.name.now c.loop-step.way.items before step c.in-Some.ensures.items
    c.loop-step.invariant.way in (
      c.loop-step.invariant.sound,
      (
        way.0,
        subst (λ (name : Text). Waits variables lists met name (reverse before)
            (variable_at variables step.variable).name) (sym first) way.1,
      ),
    )

pub loop-step-preserved : goal.loop-step-preserved
loop-step-preserved c =
    let variables = c.args.declared.now in
    let first = asked variables c.loop-step.self.lists.items c.loop-step.self.met.items c.args.name.now c.loop-step.way.items
    c.pop.new.self.items c.in-Some.step c.in-Some.ensures.items c.loop-step.invariant.way in
    record {
      sound = c.in_ok-advance.ensures.sound;
      way = subst (λ (name : Text). IsWay variables c.advance.new.self.lists.items c.advance.new.self.met.items name
          (reverse c.advance.new.way.items)) first c.in_ok-advance.ensures.way;
      more = λ name list e. c.in_ok-advance.ensures.more name list (c.loop-step.invariant.more name list e);
    }

pub returns-in_err-advance-clause-fault : goal.returns-in_err-advance-clause-fault
returns-in_err-advance-clause-fault c =
    let variables = c.args.declared.now in
    let first = asked variables c.loop-step.self.lists.items c.loop-step.self.met.items c.args.name.now c.loop-step.way.items
    c.pop.new.self.items c.in-Some.step c.in-Some.ensures.items c.loop-step.invariant.way in
    let p = err_from_is_err_and c.from_residual-in_err-advance.result c.from_residual-in_err-advance.ensures.1 in
    rw (p.1, p.2) (subst (λ (name : Text). Tells (HasProblem variables [] name) c.in_err-advance.field-0.0) first
    c.in_err-advance.ensures.fault)

-- one turn of the loop
nearer : (all : ℕ) (old : Lists) (way : List Step) (new : Lists) (after : List Step) (steps : ℕ) → steps ≡ length way + 1 →
    made_count new ≤ all → steps ≤ all → length after ≤ all
    → IsNearer old way new after → left_to_do all (made_count new) (length after) < left_to_do all (made_count old) steps
nearer all old way new after steps is few short_old short_new near =
    let P : ℕ → ℕ → ℕ → Type 0 = λ m n s. left_to_do all m n < left_to_do all (made_count old) s in
    ⊎_elim
    (λ one. subst (λ m. P m (length after) steps) (sym one.0) (subst (λ n. P (made_count old + 1) n steps) (sym one.1)
    (subst (P (made_count old + 1) (length way)) (sym is) (one_list_more all (made_count old) (length way) (omega (arith, one.0))
    (omega arith)))))
    (λ other.
    let further : length after ≡ steps + 1 = omega (arith, other.1) in
    subst (λ m. P m (length after) steps) (sym other.0) (subst (λ n. P (made_count old) n steps) (sym further)
    (one_step_more all (made_count old) steps (omega arith))))
    near

pub loop-step-smaller : goal.loop-step-smaller
loop-step-smaller c =
    let variables = c.args.declared.now in
    let name = c.args.name.now in
    let old = c.loop-step.self in
    let new = c.advance.new.self in
    let preserved = loop-step-preserved c in
    let few = count_few new.lists.items in
    let length_old = length-reverse c.loop-step.way.items in
    let length_new = length-reverse c.advance.new.way.items in
    let short_old = short variables old.lists.items old.met.items name (reverse c.loop-step.way.items) c.loop-step.invariant.way in
    let short_new = short variables new.lists.items new.met.items name (reverse c.advance.new.way.items) preserved.way in
    nearer (length variables) old.lists.items c.pop.new.self.items new.lists.items c.advance.new.way.items (length c.loop-step.way.items)
    (ap length c.in-Some.ensures.items ∙ length-append c.pop.new.self.items (c.in-Some.step ∷ []))
    (let h = preserved.sound.lists in omega (arith, h, few)) (omega (arith, length_old, short_old)) (omega (arith, length_new, short_new))
    c.in_ok-advance.ensures.nearer
