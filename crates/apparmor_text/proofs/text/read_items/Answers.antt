use Rattle.std.proofs.Common.{◌≡◌, ◌++◌, [], List, sym, ap, subst, ◌∙◌, length, arith}
use Rattle.apparmor_text.specs.declared.part.ItemKind.{ItemKind}
use Rattle.apparmor_words.specs.declared.stop.Failure.{Failure}
use Rattle.apparmor_text.specs.declared.text.Position.{Position}
use Rattle.apparmor_text.specs.Parts.{ItemValue}
use Rattle.apparmor_words.specs.Steps.{}
use Rattle.apparmor_text.specs.Readings.{Reading}
use Rattle.apparmor_words.specs.Stops.{stop_value}
use Rattle.apparmor_text.specs.Texts.{at_start, item_at, behind_item, ReadsFrom}
use Rattle.apparmor_words.specs.Gives.{Fails}
use Rattle.apparmor_text.proofs.GoingRules.{some_length}
use Rattle.apparmor_text.proofs.ItemLoop.{item_shorter, one_item_more, stops_here, depth_behind}
use Rattle.apparmor_text.proofs.text.read_items.Goals as goal

pub loop-rest-smaller : goal.loop-rest-smaller
loop-rest-smaller c =
    let there = some_length (length c.loop-rest.rest.now) (sym c.loop-rest-test.ensures) in
    item_shorter c.loop-rest.position c.loop-rest.rest.now c.in-Ok.item.kind
    (record { parts = c.in-Ok.item.parts; rest = c.in-Ok.more.now }) there c.in-Ok.ensures

pub loop-rest-preserved : goal.loop-rest-preserved
loop-rest-preserved c =
    let l = c.loop-rest in
    let there = some_length (length l.rest.now) (sym c.loop-rest-test.ensures) in
    let kind = c.in-Ok.item.kind in
    let s : Reading = record { parts = c.in-Ok.item.parts; rest = c.in-Ok.more.now } in
    let more = one_item_more c.args.text.now at_start l.items.items l.position l.rest.now kind s there c.in-Ok.ensures
    l.invariant.so_far in
    let place : c.behind-position.result ≡ behind_item kind l.position = c.behind-position.ensures
    ∙ ap (λ k. behind_item k l.position) c.kind.ensures in
    let less = item_shorter l.position l.rest.now kind s there c.in-Ok.ensures in
    let deeper = depth_behind kind l.position in
    let depth : c.behind-position.result.depth ≡ (behind_item kind l.position).depth = ap (λ (p : Position). p.depth) place in
    let few = l.invariant.few in
    record {
      so_far = λ others end r. subst (λ (x : List ItemValue). ReadsFrom at_start c.args.text.now (x ++ others) end)
          (sym c.in_ok-add-in-Ok.ensures)
          (more others end (subst (λ (p : Position). ReadsFrom p c.in-Ok.more.now others end) place r));
      few = omega (arith, less, deeper, depth, few);
    }

pub returns-in-Err-At : goal.returns-in-Err-At
returns-in-Err-At c =
    let there = some_length (length c.loop-rest.rest.now) (sym c.loop-rest-test.ensures) in
    let here : Reading = record { parts = []; rest = c.loop-rest.rest.now } in
    let fault = subst (λ (f : Failure). Fails {Y = ItemKind × Reading} f (item_at c.loop-rest.position here)) c.in-Err-At.field-0-is
    c.in-Err-At.ensures in
    rw c.in-Err-At.stop-is (stops_here c.args.text.now at_start c.loop-rest.items.items c.loop-rest.position c.loop-rest.rest.now
    (stop_value c.in-Err-At.stop) there fault c.loop-rest.invariant.so_far)
