-- Each item is drawn before what was drawn already.
use Rattle.std.proofs.Common.{[], ◌∷◌, ap, sym, subst, refl, arith}
use Rattle.rule_globs.specs.Glob.{exactly, not_slash}
use Rattle.rule_globs.specs.Meaning.{meaning, meaning_of, alternatives_meaning}
use Rattle.glob_automaton.specs.inner.Drawings.{IsDrawn}
use Rattle.glob_automaton.specs.declared.chart.Label.TheVariants as label
use Rattle.glob_automaton.proofs.DrawingLaws.{drawn_empty, drawn_none, drawn_cat, drawn_alt, ready_on}
use Rattle.glob_automaton.proofs.DrawingItems.{of_byte, of_any_byte, of_group, weight, lighter_item, lighter_alternative, all_left}
use Rattle.glob_automaton.proofs.DrawingItems.{one_more_done, all_done, item_of_one, item_of}
use Rattle.glob_automaton.proofs.chart.Chart.+draw.Goals as goal

pub draw_alternatives-loop-items-init : goal.draw_alternatives-loop-items-init
draw_alternatives-loop-items-init t c = (
  [],
  all_left c.args.alternatives.now c.into_iter-items-iterator.result.iter.rest.now
      (cc (c.into_iter-items-iterator.ensures.into_iter_gives, c.rev-items-items.ensures.source, c.iter.ensures.rest)),
  drawn_none c.args.self.now c.entry.new.self c.args.behind c.in_ok-entry.entry c.requires c.in_ok-entry.ensures.number
      c.in_ok-entry.ensures.entries c.entry.ensures.places c.entry.ensures.classes c.entry.ensures.rules,
)

pub draw_alternatives-draw_items-requires : goal.draw_alternatives-draw_items-requires
draw_alternatives-draw_items-requires t c = (
  omega (
    arith,
    c.decreases,
    lighter_alternative c.args.alternatives.now c.next.new.self.iter.rest.now c.loop-items.invariant.0 c.in-Some.items.now
        c.deref.result.now
        (one_more_done c.args.alternatives.now c.loop-items.items-iterator.iter.rest.now c.next.new.self.iter.rest.now
        c.loop-items.invariant.0 c.in-Some.items.now c.loop-items.invariant.1 c.in-Some.ensures.steps) c.deref.ensures.value,
  ),
  ready_on c.args.self.now c.loop-items.self (alternatives_meaning c.loop-items.invariant.0) c.args.behind c.loop-items.entry c.args.behind
      c.requires c.loop-items.invariant.2,
)

pub draw_alternatives-loop-items-preserved : goal.draw_alternatives-loop-items-preserved
draw_alternatives-loop-items-preserved t c = (
  c.in-Some.items.now ∷ c.loop-items.invariant.0,
  one_more_done c.args.alternatives.now c.loop-items.items-iterator.iter.rest.now c.next.new.self.iter.rest.now c.loop-items.invariant.0
      c.in-Some.items.now
      c.loop-items.invariant.1 c.in-Some.ensures.steps,
  drawn_alt c.args.self.now c.loop-items.self c.draw_items.new.self c.entry-in-loop-items.new.self (meaning_of c.in-Some.items.now.items)
      (alternatives_meaning c.loop-items.invariant.0) c.args.behind c.loop-items.entry c.in_ok-one.one c.in_ok-entry-2.entry c.requires
      c.loop-items.invariant.2
      (subst (λ z. IsDrawn c.loop-items.self c.draw_items.new.self (meaning_of z) c.args.behind c.in_ok-one.one) c.deref.ensures.value
      c.in_ok-one.ensures)
      c.in_ok-entry-2.ensures.number c.in_ok-entry-2.ensures.entries c.entry-in-loop-items.ensures.places
      c.entry-in-loop-items.ensures.classes c.entry-in-loop-items.ensures.rules,
)

pub draw_alternatives-returns : goal.draw_alternatives-returns
draw_alternatives-returns t c =
    subst (λ z. IsDrawn c.args.self.now c.loop-items.self (alternatives_meaning z) c.args.behind c.loop-items.entry)
    (sym (all_done c.args.alternatives.now c.loop-items.items-iterator.iter.rest.now c.loop-items.invariant.0 c.loop-items.invariant.1
    c.in-None.ensures.steps.0))
    c.loop-items.invariant.2

pub draw_item-returns-in-Byte : goal.draw_item-returns-in-Byte
draw_item-returns-in-Byte t c =
    item_of_one c.args.self.now c.draw_one.new.self c.draw_one.result (label.Byte c.in-Byte.byte) (exactly c.in-Byte.byte) c.args.behind
    (meaning c.args.item.now) (of_byte c.args.item.now c.in-Byte.byte c.in-Byte.is) tt (λ b lt. refl) c.draw_one.ensures.drawn

pub draw_item-returns-in-AnyByte : goal.draw_item-returns-in-AnyByte
draw_item-returns-in-AnyByte t c =
    item_of_one c.args.self.now c.draw_one-in-AnyByte.new.self c.draw_one-in-AnyByte.result label.InComponent not_slash c.args.behind
    (meaning c.args.item.now) (of_any_byte c.args.item.now c.in-AnyByte.is) tt (λ b lt. refl) c.draw_one-in-AnyByte.ensures.drawn

pub draw_item-draw_alternatives-requires : goal.draw_item-draw_alternatives-requires
draw_item-draw_alternatives-requires t c = (
  omega (
    arith,
    c.decreases,
    ap weight (of_group c.args.item.now c.in-Group.alternatives c.deref.result.now c.in-Group.is
        c.deref.ensures.value),
  ),
  c.requires,
)

pub draw_item-returns-in-Group : goal.draw_item-returns-in-Group
draw_item-returns-in-Group t c =
    item_of c.args.self.now c.draw_alternatives.new.self c.draw_alternatives.result c.args.behind (alternatives_meaning c.deref.result.now)
    (meaning c.args.item.now) (of_group c.args.item.now c.in-Group.alternatives c.deref.result.now c.in-Group.is c.deref.ensures.value)
    c.draw_alternatives.ensures

pub draw_items-loop-item-init : goal.draw_items-loop-item-init
draw_items-loop-item-init t c = (
  [],
  all_left c.args.items.now c.into_iter-item-iterator.result.iter.rest.now
      (cc (c.into_iter-item-iterator.ensures.into_iter_gives, c.rev-item-items.ensures.source, c.iter.ensures.rest)),
  drawn_empty c.args.self.now c.args.behind c.requires,
)

pub draw_items-draw_item-requires : goal.draw_items-draw_item-requires
draw_items-draw_item-requires t c = (
  omega (
    arith,
    c.decreases,
    lighter_item c.args.items.now c.next.new.self.iter.rest.now c.loop-item.invariant.0 c.in-Some.item.now
        (one_more_done c.args.items.now c.loop-item.item-iterator.iter.rest.now c.next.new.self.iter.rest.now c.loop-item.invariant.0
        c.in-Some.item.now c.loop-item.invariant.1 c.in-Some.ensures.steps),
  ),
  c.loop-item.invariant.2.ready,
)

pub draw_items-loop-item-preserved : goal.draw_items-loop-item-preserved
draw_items-loop-item-preserved t c = (
  c.in-Some.item.now ∷ c.loop-item.invariant.0,
  one_more_done c.args.items.now c.loop-item.item-iterator.iter.rest.now c.next.new.self.iter.rest.now c.loop-item.invariant.0
      c.in-Some.item.now
      c.loop-item.invariant.1 c.in-Some.ensures.steps,
  drawn_cat c.args.self.now c.loop-item.self c.draw_item.new.self (meaning c.in-Some.item.now) (meaning_of c.loop-item.invariant.0)
      c.args.behind c.loop-item.entry c.in_ok-entry.entry c.loop-item.invariant.2 c.in_ok-entry.ensures,
)

pub draw_items-returns : goal.draw_items-returns
draw_items-returns t c =
    subst (λ z. IsDrawn c.args.self.now c.loop-item.self (meaning_of z) c.args.behind c.loop-item.entry)
    (sym (all_done c.args.items.now c.loop-item.item-iterator.iter.rest.now c.loop-item.invariant.0 c.loop-item.invariant.1
    c.in-None.ensures.steps.0))
    c.loop-item.invariant.2
