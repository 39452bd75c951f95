-- The path's automaton, found or built, has the hits of the rule.
use Rattle.std.proofs.Common.{◌≡◌, ◌+◌, zero, suc, [], ◌∷◌, IsTrue, ap, ◌∙◌, subst}
use Rattle.std.proofs.lemmas.Option.{none-some, same_Some}
use Rattle.rule_profile.specs.Profile.{RuleValue, rule_value}
use Rattle.rule_profile.specs.Readable.{begins_with_slash}
use Rattle.glob_automaton.specs.Parts.{IsAutomatonOfPart}
use Rattle.glob_automaton.specs.inner.Drawings.{IsChartOf}
use Rattle.glob_automaton.specs.inner.Leaves.{hits_alone, reading, IsWithHits}
use Rattle.glob_automaton.proofs.BuiltPaths.{one_more_built}
use Rattle.glob_automaton.proofs.Compiled.{built, not_built}
use Rattle.glob_automaton.proofs.LeafLaws.{leaf_part, fault_up}
use Rattle.glob_automaton.proofs.NamePrefixes.{EachWithSlash}
use Rattle.glob_automaton.proofs.SameCharts.{same_chart}
use Rattle.glob_automaton.proofs.leaf.Leaves.leaf.Goals as goal

alone : (rule : RuleValue) → IsTrue (begins_with_slash rule.items) → EachWithSlash (rule ∷ [])
alone rule h zero other e = subst (λ (z : RuleValue). IsTrue (begins_with_slash z.items)) (same_Some rule other e) h
alone rule h (suc i) other e = absurd (none-some other e)

pub returns-in-Some-clause-ok : goal.returns-in-Some-clause-ok
returns-in-Some-clause-ok c rules before e at =
    let rule = rule_value c.args.rule.now in
    let live = c.live_places_go_on.ensures in
    let path = c.in-Some.path.now in
    let chart : IsChartOf (reading rule ∷ []) path.chart =
    same_chart c.in_ok-chart.chart path.chart c.in-Some.ensures.0 (reading rule ∷ []) c.in_ok-chart.ensures.chart in
    let its : IsAutomatonOfPart (reading rule ∷ []) 0 1 path.dfa =
    built live.begin live.step c.live_is_left_first.ensures (reading rule ∷ []) path.chart chart path.dfa c.in-Some.ensures.1
    c.records_are_their_hits.ensures.same in
    let hits : c.hits_alone-hits.result ≡ hits_alone rule (before + 1) = c.hits_alone-hits.ensures ∙ ap (hits_alone rule) e in
    leaf_part rules rule before at c.records_are_their_hits.ensures.made c.records_are_their_hits.ensures.same path.dfa
    c.in_ok-with_hits.field-0 its (subst (λ z. IsWithHits z path.dfa c.in_ok-with_hits.field-0) hits c.in_ok-with_hits.ensures)

pub returns-in-Err-clause-err : goal.returns-in-Err-clause-err
returns-in-Err-clause-err c rules before at =
    let rule = rule_value c.args.rule.now in
    let live = c.live_places_go_on.ensures in
    fault_up rules rule before at c.in-Err.fault
    (not_built live.begin live.step c.live_is_left_first.ensures (reading rule ∷ []) c.in_ok-chart.chart c.in_ok-chart.ensures.chart
    (alone (reading rule) c.requires.slash) c.in-Err.fault c.in-Err.ensures.err)

pub returns-clause-ok : goal.returns-clause-ok
returns-clause-ok c rules before e at =
    let rule = rule_value c.args.rule.now in
    let live = c.live_places_go_on.ensures in
    let its : IsAutomatonOfPart (reading rule ∷ []) 0 1 c.in-Ok.dfa =
    built live.begin live.step c.live_is_left_first.ensures (reading rule ∷ []) c.in_ok-chart.chart c.in_ok-chart.ensures.chart
    c.in-Ok.dfa c.in-Ok.ensures.ok
    c.records_are_their_hits.ensures.same in
    let hits : c.hits_alone-hits.result ≡ hits_alone rule (before + 1) = c.hits_alone-hits.ensures ∙ ap (hits_alone rule) e in
    leaf_part rules rule before at c.records_are_their_hits.ensures.made c.records_are_their_hits.ensures.same c.in-Ok.dfa
    c.in_ok-leaf.leaf its (subst (λ z. IsWithHits z c.in-Ok.dfa c.in_ok-leaf.leaf) hits c.in_ok-leaf.ensures)

pub returns-clause-built : goal.returns-clause-built
returns-clause-built c = one_more_built c.make_room.new.self.built.items c.keep.new.list.items
    (record { chart = c.in_ok-chart.chart; dfa = c.in-Ok.dfa })
    c.make_room.ensures c.in-Ok.ensures.ok c.in_ok-keep.ensures
