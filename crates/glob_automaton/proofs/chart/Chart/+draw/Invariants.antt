-- What the iterator has left, and before what was drawn already: the items from there to the end.
use Rattle.std.proofs.Common.{◌≡◌, ◌++◌, ◌+◌, ◌*◌, List, Vec, Global}
use Rattle.rule_globs.specs.Meaning.{meaning, meaning_of, alternatives_meaning}
use Rattle.rule_globs.specs.declared.items.Item.{Item}
use Rattle.glob_automaton.specs.inner.Drawings.{IsDrawn}
use Rattle.glob_automaton.proofs.DrawingItems.{weight}
use Rattle.glob_automaton.proofs.chart.Chart.+draw.Given as goal

abbrev pub invariant-draw_alternatives-loop-items : goal.invariant-draw_alternatives-loop-items
invariant-draw_alternatives-loop-items l =
    (back : List (Vec Item Global)) × (l.alternatives ≡ l.items-iterator.iter.rest.now ++ back)
    × IsDrawn l.fn.self l.self (alternatives_meaning back) l.behind l.entry

abbrev pub invariant-draw_items-loop-item : goal.invariant-draw_items-loop-item
invariant-draw_items-loop-item l =
    (back : List Item) × (l.items ≡ l.item-iterator.iter.rest.now ++ back)
    × IsDrawn l.fn.self l.self (meaning_of back) l.behind l.entry

abbrev pub decreases-draw_item : goal.decreases-draw_item
decreases-draw_item l = 2 * weight (meaning l.item.now) + 1

abbrev pub decreases-draw_items : goal.decreases-draw_items
decreases-draw_items l = 2 * weight (meaning_of l.items.now)

abbrev pub decreases-draw_alternatives : goal.decreases-draw_alternatives
decreases-draw_alternatives l = 2 * weight (alternatives_meaning l.alternatives.now)
