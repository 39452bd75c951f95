use Rattle.std.proofs.Common.{[], refl, ap, arith}
use Rattle.std.proofs.lemmas.List.{drop_all}
use Rattle.apparmor_variables.specs.Variables.{byte_count}
use Rattle.apparmor_variables.proofs.CountSteps.{Lent, texts_of, value_left}
use Rattle.apparmor_variables.proofs.counts.values_count.Goals as goal

pub returns-in-None : goal.returns-in-None
returns-in-None c =
    let values = c.args.values.now in
    let i = c.loop-value.value-index in
    let d : Lent = record { ref_ptr = (0, 0); now = [] } in
    let rest = value_left values i d (omega arith) in
    let whole = c.loop-value.invariant.sum in
    let sum = c.in-None.ensures.1 in
    let more = c.in-None.ensures.2 in
    (byte_count (texts_of values), refl, omega (arith, rest, whole, sum, more))

pub loop-value-preserved : goal.loop-value-preserved
loop-value-preserved c =
    let values = c.args.values.now in
    let i = c.loop-value.value-index in
    let d : Lent = record { ref_ptr = (0, 0); now = [] } in
    let rest = value_left values i d (omega arith) in
    let whole = c.loop-value.invariant.sum in
    let sum = c.in-Some.ensures.0 in
    record { sum = omega (arith, rest, whole, sum); most = c.in-Some.ensures.1 }

pub returns : goal.returns
returns c =
    let values = c.args.values.now in
    let i = c.loop-value.value-index in
    let none = ap (λ x. byte_count (texts_of x)) (drop_all i values (omega arith)) in
    let whole = c.loop-value.invariant.sum in
    (omega (arith, none, whole), c.loop-value.invariant.most)
