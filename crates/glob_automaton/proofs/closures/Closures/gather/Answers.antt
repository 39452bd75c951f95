-- An entry refers only to entries before it, whose closures are there.
use Rattle.std.proofs.Common.{arith}
use Rattle.glob_automaton.proofs.ClosureSteps.{either_live, entry_stands, nothing_live, place_live, run_live}
use Rattle.glob_automaton.proofs.RowSteps.{on_ok}
use Rattle.glob_automaton.proofs.closures.Closures.gather.Goals as goal

pub join-requires-clause-there : goal.join-requires-clause-there
join-requires-clause-there c =
    let before = c.requires.ordered c.args.entry _ (entry_stands c.args.chart.now.entries.items c.args.entry _ _ c.requires.there
    c.index.ensures c.in-Run.is) in
    omega (arith, before, c.requires.next)

pub join-requires-in-Either-clause-there : goal.join-requires-in-Either-clause-there
join-requires-in-Either-clause-there c =
    let before = c.requires.ordered c.args.entry _ (entry_stands c.args.chart.now.entries.items c.args.entry _ _ c.requires.there
    c.index.ensures c.in-Either.is) in
    omega (arith, before.0, c.requires.next)

pub join-requires-in-Either-2-clause-there : goal.join-requires-in-Either-2-clause-there
join-requires-in-Either-2-clause-there c =
    let before = c.requires.ordered c.args.entry _ (entry_stands c.args.chart.now.entries.items c.args.entry _ _ c.requires.there
    c.index.ensures c.in-Either.is) in
    omega (arith, before.1, c.requires.next)

pub returns-in-Nothing-clause-places : goal.returns-in-Nothing-clause-places
returns-in-Nothing-clause-places c =
    let entries = c.args.chart.now.entries.items in
    nothing_live entries c.args.entry c.args.bits.now.words.items c.requires.none
    (entry_stands entries c.args.entry _ _ c.requires.there c.index.ensures c.in-Nothing.is)

pub returns-in-Place-clause-places : goal.returns-in-Place-clause-places
returns-in-Place-clause-places c =
    let entries = c.args.chart.now.entries.items in
    on_ok c.add.result
    (place_live entries c.args.entry c.args.bits.now.words.items c.requires.none c.in-Place.place c.add.new.self.words.items
    (entry_stands entries c.args.entry _ _ c.requires.there c.index.ensures c.in-Place.is))
    c.add.ensures.places

pub returns-in_ok-add-in-Run-clause-places : goal.returns-in_ok-add-in-Run-clause-places
returns-in_ok-add-in-Run-clause-places c =
    let entries = c.args.chart.now.entries.items in
    on_ok c.join.result
    (λ then. run_live entries c.args.entry c.args.bits.now.words.items c.requires.none c.in-Run.place c.in-Run.behind
    c.add-in-Run.new.self.words.items c.join.new.bits.words.items
    (entry_stands entries c.args.entry _ _ c.requires.there c.index.ensures c.in-Run.is)
    c.in_ok-add-in-Run.ensures.places (then entries c.requires.each))
    c.join.ensures.places

pub returns-in_ok-join-in-Either-clause-places : goal.returns-in_ok-join-in-Either-clause-places
returns-in_ok-join-in-Either-clause-places c =
    let entries = c.args.chart.now.entries.items in
    on_ok c.join-in-Either-2.result
    (λ then. either_live entries c.args.entry c.args.bits.now.words.items c.requires.none c.in-Either.one c.in-Either.other
    c.join-in-Either.new.bits.words.items c.join-in-Either-2.new.bits.words.items
    (entry_stands entries c.args.entry _ _ c.requires.there c.index.ensures c.in-Either.is)
    (c.in_ok-join-in-Either.ensures.places entries c.requires.each) (then entries c.requires.each))
    c.join-in-Either-2.ensures.places
