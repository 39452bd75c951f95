-- The empty set is the first, and what is live at the start is it or the second.
use Rattle.std.proofs.lemmas.Result.{IfOk-weaker}
use Rattle.std.proofs.Common.{sym, subst}
use Rattle.glob_automaton.specs.inner.ChartStates.{IsStartOf}
use Rattle.glob_automaton.specs.inner.States.{lists_of}
use Rattle.glob_automaton.proofs.BuiltStates.{empty_set_alone, no_states}
use Rattle.glob_automaton.proofs.subsets.number_start.Goals as goal

pub returns-clause-start : goal.returns-clause-start
returns-clause-start c =
    let chart = c.args.chart.now in
    let one = empty_set_alone chart _ (lists_of c.number.new.self) c.in_ok-number.field-0 c.requires.none c.in_ok-number.ensures.ok in
    let begun : IsStartOf chart c.places.result.now = subst (λ z. IsStartOf chart z) (sym c.places.ensures)
    c.in_ok-gather_start.ensures.start in
    IfOk-weaker c.number-2.result _ _
    (λ start is. no_states chart (lists_of c.number.new.self) (lists_of c.number-2.new.self) c.places.result.now
    start one.0 one.1 begun is)
    c.number-2.ensures.ok
