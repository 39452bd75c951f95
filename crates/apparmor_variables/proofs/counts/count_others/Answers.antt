use Rattle.std.proofs.Common.{◌≡◌, ◌<◌, ◌+◌, ◌-◌, List, [], drop, length, Some, None, refl, sym, subst, arith}
use Rattle.std.proofs.lemmas.List.{drop_all}
use Rattle.apparmor_variables.specs.Variables.{Variable}
use Rattle.apparmor_variables.specs.Counts.{AtMost, Counts, CountTogether, OthersCount}
use Rattle.apparmor_variables.specs.inner.Way.{variable_at}
use Rattle.apparmor_variables.proofs.CountSteps.{one_more, too_much}
use Rattle.apparmor_variables.proofs.counts.count_others.Goals as goal

pub returns-in-None-clause-count : goal.returns-in-None-clause-count
returns-in-None-clause-count c =
    let variables = c.args.declared.now in
    let place = c.loop-place.place in
    let all = c.loop-place.all in
    let h : AtMost (Counts variables (variable_at variables place)) (c.args.most - all) None =
    subst (AtMost (Counts variables (variable_at variables place)) (c.args.most - all)) c.in-None.is c.in_ok-one.ensures.count in
    let low : place < length variables = omega (arith, c.loop-place-test.true, c.len-place-end.ensures) in
    let most = c.loop-place.invariant.most in
    let more = h.2 in
    too_much variables place all low c.loop-place.invariant.whole h.0 c.args.most h.1 (omega (arith, most, more))

pub loop-place-preserved : goal.loop-place-preserved
loop-place-preserved c =
    let variables = c.args.declared.now in
    let place = c.loop-place.place in
    let all = c.loop-place.all in
    let h : AtMost (Counts variables (variable_at variables place)) (c.args.most - all) (Some c.in-Some.one) =
    subst (AtMost (Counts variables (variable_at variables place)) (c.args.most - all)) c.in-Some.is c.in_ok-one.ensures.count in
    let low : place < length variables = omega (arith, c.loop-place-test.true, c.len-place-end.ensures) in
    let most = c.loop-place.invariant.most in
    let few = h.1 in
    record {
      sound = c.in_ok-one.ensures.sound;
      whole = one_more variables place all low c.loop-place.invariant.whole c.in-Some.one h.0;
      most = omega (arith, most, few);
    }

pub returns-clause-count : goal.returns-clause-count
returns-clause-count c =
    let variables = c.args.declared.now in
    let all = c.loop-place.all in
    let none : drop c.loop-place.place variables ≡ [] = drop_all c.loop-place.place variables
    (omega (arith, c.loop-place-test.false, c.len-place-end.ensures)) in
    let same : all + 0 ≡ all = omega arith in (
      subst (OthersCount variables) same
          (c.loop-place.invariant.whole 0 (subst (λ (vs : List Variable). CountTogether variables vs 0) (sym none) refl)),
      c.loop-place.invariant.most,
    )
