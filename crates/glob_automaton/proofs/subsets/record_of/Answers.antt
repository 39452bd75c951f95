use Rattle.std.proofs.Common.{◌≡◌, ◌∙◌, ap, nat_eq, refl, sym, subst, Some, slice_get, arith}
use Rattle.std.proofs.lemmas.Bool.{eqb-true}
use Rattle.std.proofs.lemmas.Map.Views.{Contains-from_any}
use Rattle.std.proofs.lemmas.Option.{slice_get_read}
use Rattle.names.specs.declared.record.Record.{Record}
use Rattle.names.specs.Hits.{no_hits, record_with}
use Rattle.glob_automaton.specs.inner.ChartStates.{IsRecordOf}
use Rattle.glob_automaton.proofs.EndRecords.{end_record}
use Rattle.glob_automaton.proofs.subsets.record_of.Goals as goal

pub returns-then-contains : goal.returns-then-contains
returns-then-contains c =
    let chart = c.args.chart.now in
    let rule = c.index.result.now in
    let stands : slice_get chart.rules.items 0 ≡ Some rule = slice_get_read chart.rules.items _ 0 rule refl (omega (arith, c.requires))
    c.index.ensures in
    let made : c.with_rule.result ≡ record_with no_hits rule.kind rule.perms 1 =
    c.with_rule.ensures ∙ ap (λ (z : Record). record_with z rule.kind rule.perms 1) c.none.ensures in
    subst (IsRecordOf chart c.args.set.now) (sym made)
    (end_record c.records_are_their_hits.ensures.made chart c.args.set.now rule c.requires stands
    (Contains-from_any {eq = λ a b. nat_eq b a} (λ x y e. sym (eqb-true y x e)) rule.end c.args.set.now
    (sym c.contains.ensures.value ∙ c.if-contains.true)))
