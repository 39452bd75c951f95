-- The calls go down, and a group is its alternatives in braces.
use Rattle.std.proofs.Common.{◌≡◌, ◌∷◌, [], ◌++◌, ap, length, arith}
use Rattle.std.specs.List.{flat_map}
use Rattle.std.proofs.lemmas.Result.{IfOk-weaker}
use Rattle.rule_writer.specs.Canonical.{token_text}
use Rattle.rule_globs.specs.Tokens.{tokens, tokens_of, with_commas}
use Rattle.rule_writer.specs.laws.CanonWrites.{items_parts, group_written, length-Group, length_item, length_alternative}
use Rattle.rule_writer.proofs.writer.+write.Goals as goal

pub put_items-put_item-requires : goal.put_items-put_item-requires
put_items-put_item-requires t c = (
  omega (arith, length_item c.args.items.now c.loop-item.item-index c.item-item.result c.loop-item-test.true c.item-item.is, c.decreases),
  tt,
)

pub put_item-put_alternatives-requires : goal.put_item-put_alternatives-requires
put_item-put_alternatives-requires t c = (
  omega (
    arith,
    length-Group c.args.item.now c.in-Group.alternatives c.in-Group.is,
    ap (λ z. length (with_commas (items_parts z)))
        c.deref.ensures.value,
    c.decreases,
  ),
  tt,
)

pub put_alternatives-put_items-requires : goal.put_alternatives-put_items-requires
put_alternatives-put_items-requires t c = (
  omega (
    arith,
    length_alternative c.args.alternatives.now c.loop-items.items-index c.items-item.result c.loop-items-test.true
        c.items-item.is,
    ap (λ z. length (tokens_of z)) c.deref.ensures.value,
    c.decreases,
  ),
  tt,
)

pub put_item-returns-in_ok-put_alternatives-in-Group : goal.put_item-returns-in_ok-put_alternatives-in-Group
put_item-returns-in_ok-put_alternatives-in-Group t c =
    IfOk-weaker c.put-in-Group-2.result
    (λ _. c.put-in-Group-2.new.text.items ≡ c.put_alternatives.new.text.items ++ 125 ∷ [])
    (λ _. c.put-in-Group-2.new.text.items ≡ c.args.text.now.items ++ flat_map token_text (tokens c.args.item.now))
    (λ _ e. group_written c.args.item.now c.in-Group.alternatives c.deref.result.now c.args.text.now.items c.put-in-Group.new.text.items
    c.put_alternatives.new.text.items c.put-in-Group-2.new.text.items c.in-Group.is c.deref.ensures.value c.in_ok-put-in-Group.ensures
    c.in_ok-put_alternatives-in-Group.ensures e)
    c.put-in-Group-2.ensures
