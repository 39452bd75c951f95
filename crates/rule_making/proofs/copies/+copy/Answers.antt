-- The calls go down, and a group is its alternatives.
use Rattle.std.proofs.Common.{sym, ap, ◌∙◌, length, arith}
use Rattle.rule_globs.specs.Tokens.{tokens, tokens_of, with_commas}
use Rattle.rule_globs.specs.laws.TokenItems.{full-Group}
use Rattle.rule_writer.specs.laws.CanonWrites.{items_parts, length-Group, length_item, length_alternative}
use Rattle.rule_making.proofs.CopyLaws.{same_group}
use Rattle.rule_making.proofs.copies.+copy.Goals as goal

pub put_copies-item_copy-requires : goal.put_copies-item_copy-requires
put_copies-item_copy-requires t c = (
  omega (arith, length_item c.args.items.now c.loop-item.item-index c.item-item.result c.loop-item-test.true c.item-item.is, c.decreases),
  tt,
)

pub item_copy-alternatives_copy-requires : goal.item_copy-alternatives_copy-requires
item_copy-alternatives_copy-requires t c = (
  omega (
    arith,
    length-Group c.args.item.now c.in-Group.alternatives c.in-Group.is,
    ap (λ z. length (with_commas (items_parts z)))
        c.deref.ensures.value,
    c.decreases,
  ),
  tt,
)

pub alternatives_copy-put_copies-requires : goal.alternatives_copy-put_copies-requires
alternatives_copy-put_copies-requires t c = (
  omega (
    arith,
    length_alternative c.args.alternatives.now c.loop-items.items-index c.items-item.result c.loop-items-test.true
        c.items-item.is,
    ap (λ z. length (tokens_of z)) c.deref.ensures.value,
    c.decreases,
  ),
  tt,
)

pub item_copy-returns-in_ok-with_some-in-Group-clause-tokens : goal.item_copy-returns-in_ok-with_some-in-Group-clause-tokens
item_copy-returns-in_ok-with_some-in-Group-clause-tokens t c =
    same_group c.in_ok-with_some-in-Group.field-0 c.in-Group.alternatives
    (c.in_ok-with_some-in-Group.ensures.tokens
    ∙ ap with_commas (c.in_ok-copies-in-Group.ensures.tokens ∙ ap items_parts c.deref.ensures.value))
    ∙ sym (ap tokens c.in-Group.is)

pub item_copy-returns-in_ok-with_some-in-Group-clause-full : goal.item_copy-returns-in_ok-with_some-in-Group-clause-full
item_copy-returns-in_ok-with_some-in-Group-clause-full t c =
    full-Group c.in_ok-with_some-in-Group.field-0 ∙ c.in_ok-with_some-in-Group.ensures.full
