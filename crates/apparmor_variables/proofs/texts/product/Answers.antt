use Rattle.std.proofs.Common.{◌++◌, map, ap, ◌∙◌, arith}
use Rattle.apparmor_pieces.specs.Pieces.{Text}
use Rattle.apparmor_variables.proofs.TextLists.{product_more, Bytes, items}
use Rattle.apparmor_variables.proofs.texts.product.Goals as goal

pub loop-first-preserved : goal.loop-first-preserved
loop-first-preserved c =
    let old = items c.loop-first.texts.items in
    product_more c.args.firsts.now c.args.seconds.now c.loop-first.texts.items c.push_with_each.new.texts.items c.loop-first.first-index
    c.first-item.result (omega arith) c.loop-first.invariant (c.in_ok-push_with_each.ensures
    ∙ ap (λ (first : Text). old ++ map (λ (second : Text). first ++ second) (items c.args.seconds.now))
    (c.deref.ensures.value ∙ ap (λ (first : Bytes). first.items) c.first-item.is))
