use Rattle.glob_automaton.proofs.RowSteps.{on_ok}
use Rattle.glob_automaton.proofs.sets.Gathering.enter.Goals as goal

pub returns-clause-places : goal.returns-clause-places
returns-clause-places c = on_ok c.join.result (λ places. places c.args.chart.now.entries.items c.requires.gathering.closures)
    c.join.ensures.places
