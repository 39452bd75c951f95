use Rattle.std.proofs.Common.{sym, subst}
use Rattle.glob_automaton.specs.inner.GatheredSets.{IsAscending}
use Rattle.glob_automaton.proofs.PlaceLists.{ascends_more}
use Rattle.glob_automaton.proofs.place_bits.push.Goals as goal

pub returns-clause-sorted : goal.returns-clause-sorted
returns-clause-sorted c = subst IsAscending (sym c.in_ok-push.ensures.items)
    (ascends_more c.args.places.now.items c.args.place c.requires.sorted c.requires.below)
