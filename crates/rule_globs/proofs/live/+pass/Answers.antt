-- What each call does is the part of the sweep that is its own, over places that are there.
use Rattle.std.proofs.Common.{◌≡◌, ◌+◌, ◌≤◌, length, drop, ap, sym, ◌∙◌, arith}
use Rattle.std.proofs.Common.{bit_or, refl}
use Rattle.rule_globs.specs.inner.Sweep.{Pass, sweep}
use Rattle.rule_globs.specs.Glob.{places}
use Rattle.rule_globs.specs.inner.Cursor.{pass_at}
use Rattle.rule_globs.specs.Meaning.{meaning, meaning_of, alternatives_meaning}
use Rattle.rule_globs.proofs.PassLaws.{at-Byte, at-AnyByte, at-Class, at-Group, places-Group, items-step, items-room, items-end}
use Rattle.rule_globs.proofs.PassLaws.{alternatives-next, alternatives-room, alternatives-end, weight-item, weight-Group}
use Rattle.rule_globs.proofs.PassLaws.{weight-alternative}
use Rattle.rule_globs.proofs.live.+pass.Goals as goal

pub pass_items-loop-item-preserved : goal.pass_items-loop-item-preserved
pass_items-loop-item-preserved t c =
    items-step c.args.items.now c.loop-item.item-index c.item-item.result c.args.block.now
    (sweep (meaning_of c.args.items.now) c.args.block.now (pass_at c.args.cursor c.args.live.now))
    (pass_at c.loop-item.cursor c.loop-item.live) c.loop-item-test.true c.item-item.is c.loop-item.invariant
    ∙ ap (λ z. sweep (meaning_of (drop (c.loop-item.item-index + 1) c.args.items.now)) c.args.block.now z) (sym c.pass_item-cursor.ensures)

pub pass_items-pass_item-cursor-requires : goal.pass_items-pass_item-cursor-requires
pass_items-pass_item-cursor-requires t c =
    let room : c.loop-item.cursor.place + places (meaning c.item-item.result) ≤ length c.args.live.now =
    items-room c.args.items.now c.loop-item.item-index c.item-item.result c.args.block.now (length c.args.live.now)
    (pass_at c.args.cursor c.args.live.now) (pass_at c.loop-item.cursor c.loop-item.live)
    c.loop-item-test.true c.item-item.is c.loop-item.invariant c.requires in
    let lighter = weight-item c.args.items.now c.loop-item.item-index c.item-item.result c.loop-item-test.true c.item-item.is in
    (omega (arith, lighter, c.decreases), omega (arith, room, c.loop-item.auto.live))

pub pass_items-returns : goal.pass_items-returns
pass_items-returns t c =
    sym (items-end c.args.items.now c.loop-item.item-index c.args.block.now (pass_at c.loop-item.cursor c.loop-item.live)
    c.loop-item-test.false)
    ∙ sym c.loop-item.invariant

pub pass_item-returns-in-Byte : goal.pass_item-returns-in-Byte
pass_item-returns-in-Byte t c =
    at-Byte c.args.item.now c.in-Byte.wanted c.args.block.now (pass_at c.args.cursor c.args.live.now)
    (pass_at c.pass_one_byte.result c.pass_one_byte.new.live) c.written.result c.in-Byte.is c.written.ensures c.pass_one_byte.ensures

pub pass_item-returns-in-AnyByte : goal.pass_item-returns-in-AnyByte
pass_item-returns-in-AnyByte t c =
    at-AnyByte c.args.item.now c.args.block.now (pass_at c.args.cursor c.args.live.now)
    (pass_at c.pass_one_byte-in-AnyByte.result c.pass_one_byte-in-AnyByte.new.live) c.in_component.result c.in-AnyByte.is
    c.in_component.ensures c.pass_one_byte-in-AnyByte.ensures

pub pass_item-returns-in-Class : goal.pass_item-returns-in-Class
pass_item-returns-in-Class t c =
    at-Class c.args.item.now c.in-Class.class c.args.block.now (pass_at c.args.cursor c.args.live.now)
    (pass_at c.pass_one_byte-in-Class.result c.pass_one_byte-in-Class.new.live) c.in_class.result c.in-Class.is c.in_class.ensures
    c.pass_one_byte-in-Class.ensures

pub pass_item-pass_alternatives-requires : goal.pass_item-pass_alternatives-requires
pass_item-pass_alternatives-requires t c = (
  omega (arith, weight-Group c.args.item.now c.in-Group.alternatives c.deref.result.now c.in-Group.is c.deref.ensures.value, c.decreases),
  omega (arith, places-Group c.args.item.now c.in-Group.alternatives c.deref.result.now c.in-Group.is c.deref.ensures.value, c.requires),
)

pub pass_item-returns-in-Group : goal.pass_item-returns-in-Group
pass_item-returns-in-Group t c =
    at-Group c.args.item.now c.in-Group.alternatives c.deref.result.now c.args.block.now (pass_at c.args.cursor c.args.live.now)
    (pass_at c.pass_alternatives.result c.pass_alternatives.new.live) c.in-Group.is c.deref.ensures.value c.pass_alternatives.ensures

pub pass_alternatives-pass_items-behind-requires : goal.pass_alternatives-pass_items-behind-requires
pass_alternatives-pass_items-behind-requires t c =
    let s1 : Pass = record { place = c.loop-items.place; reached = c.args.cursor.reached; live = c.loop-items.live } in
    let room : c.loop-items.place + places (meaning_of c.items-item.result.items) ≤ length c.args.live.now =
    alternatives-room c.args.alternatives.now c.loop-items.items-index c.items-item.result c.args.block.now (length c.args.live.now)
    c.loop-items.reached (pass_at c.args.cursor c.args.live.now) s1
    c.loop-items-test.true c.items-item.is c.loop-items.invariant c.requires in
    let same : places (meaning_of c.deref.result.now) ≡ places (meaning_of c.items-item.result.items) =
    ap (λ z. places (meaning_of z)) c.deref.ensures.value in
    let lighter = weight-alternative c.args.alternatives.now c.loop-items.items-index c.items-item.result c.deref.result.now
    c.loop-items-test.true c.items-item.is c.deref.ensures.value in
    (omega (arith, lighter, c.decreases), omega (arith, room, same, c.loop-items.auto.live))

pub pass_alternatives-loop-items-preserved : goal.pass_alternatives-loop-items-preserved
pass_alternatives-loop-items-preserved t c =
    let s1 : Pass = record { place = c.loop-items.place; reached = c.args.cursor.reached; live = c.loop-items.live } in
    alternatives-next c.args.alternatives.now c.loop-items.items-index c.items-item.result c.deref.result.now c.args.block.now
    c.loop-items.reached (bit_or c.loop-items.reached c.pass_items-behind.result.reached)
    (sweep (alternatives_meaning c.args.alternatives.now) c.args.block.now (pass_at c.args.cursor c.args.live.now)) s1
    (pass_at c.pass_items-behind.result c.pass_items-behind.new.live)
    c.loop-items-test.true c.items-item.is c.deref.ensures.value c.loop-items.invariant c.pass_items-behind.ensures refl

pub pass_alternatives-returns : goal.pass_alternatives-returns
pass_alternatives-returns t c =
    let s1 : Pass = record { place = c.loop-items.place; reached = c.args.cursor.reached; live = c.loop-items.live } in
    sym (alternatives-end c.args.alternatives.now c.loop-items.items-index c.args.block.now c.loop-items.reached s1
    c.loop-items-test.false)
    ∙ sym c.loop-items.invariant
