use Rattle.std.proofs.Common.{◌≡◌, ◌+◌, [], refl, sym, ap, ◌∙◌, subst, arith}
use Rattle.std.specs.Prelude.{unwrap_or}
use Rattle.apparmor_pieces.specs.Pieces.{Text}
use Rattle.apparmor_variables.specs.Variables.{Variable, byte_count}
use Rattle.apparmor_variables.specs.Counts.{ListCounts, Counts}
use Rattle.apparmor_variables.specs.inner.Way.{variable_at}
use Rattle.apparmor_variables.proofs.CountSteps.{at_most_so}
use Rattle.apparmor_variables.proofs.counts.count.Goals as goal

pub returns-in-Some-clause-count : goal.returns-in-Some-clause-count
returns-in-Some-clause-count c =
    let variables = c.args.declared.now in
    let v = variable_at variables c.args.place in
    let at : c.variable-variable.result.now ≡ v =
    sym (ap (λ o. unwrap_or o (record { name = []; values = [] })) c.variable-variable.ensures) in
    let list = c.in_ok-list.list in
    let counts : ListCounts variables v.name list = subst (λ (name : Text). ListCounts variables name list)
    (c.name.ensures ∙ ap (λ (x : Variable). x.name) at) c.in_ok-list.ensures.count in
    let values : c.in-Some.values ≡ byte_count v.values =
    c.in-Some.ensures.0 ∙ ap byte_count (c.values.ensures ∙ ap (λ (x : Variable). x.values) at) in
    at_most_so (λ n. n ≡ c.in-Some.values + list) (Counts variables v) (λ n e. (list, counts, e ∙ ap (λ k. k + list) values)) c.args.most
    c.sum.result c.sum.ensures

pub returns-in-None-clause-count : goal.returns-in-None-clause-count
returns-in-None-clause-count c =
    let variables = c.args.declared.now in
    let v = variable_at variables c.args.place in
    let at : c.variable-variable.result.now ≡ v =
    sym (ap (λ o. unwrap_or o (record { name = []; values = [] })) c.variable-variable.ensures) in
    let list = c.in_ok-list.list in
    let counts : ListCounts variables v.name list = subst (λ (name : Text). ListCounts variables name list)
    (c.name.ensures ∙ ap (λ (x : Variable). x.name) at) c.in_ok-list.ensures.count in
    let values : c.in-None.ensures.0 ≡ byte_count v.values =
    c.in-None.ensures.1 ∙ ap byte_count (c.values.ensures ∙ ap (λ (x : Variable). x.values) at) in
    let more = c.in-None.ensures.2 in
    (byte_count v.values + list, (list, counts, refl), omega (arith, values, more))
