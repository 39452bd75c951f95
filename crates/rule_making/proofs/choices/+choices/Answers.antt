-- The calls go down, and a group chooses where it has two alternatives or more and each of them chooses.
use Rattle.std.proofs.Common.{◌≤◌, ◌<◌, sym, ap, ◌∙◌, length, arith}
use Rattle.std.specs.List.{list_all}
use Rattle.rule_globs.specs.Tokens.{tokens_of, with_commas}
use Rattle.rule_writer.specs.laws.CanonWrites.{items_parts, length-Group, length_item, length_alternative}
use Rattle.rule_making.specs.Choices.{chooses, all_choose}
use Rattle.rule_making.specs.laws.ChoiceLaws.{chooses-Group, no_choice, too_few, by_alternatives}
use Rattle.rule_making.proofs.choices.+choices.Goals as goal

pub groups_have_alternatives-chooses-requires : goal.groups_have_alternatives-chooses-requires
groups_have_alternatives-chooses-requires t c = (
  omega (arith, length_item c.args.items.now c.loop-item.item-index c.item-item.result c.loop-item-test.true c.item-item.is, c.decreases),
  tt,
)

pub chooses-each_chooses-requires : goal.chooses-each_chooses-requires
chooses-each_chooses-requires t c = (
  omega (
    arith,
    length-Group c.args.item.now c.in-Group.alternatives c.in-Group.is,
    ap (λ z. length (with_commas (items_parts z)))
        c.deref.ensures.value,
    c.decreases,
  ),
  tt,
)

pub each_chooses-groups_have_alternatives-requires : goal.each_chooses-groups_have_alternatives-requires
each_chooses-groups_have_alternatives-requires t c = (
  omega (
    arith,
    length_alternative c.args.alternatives.now c.loop-items.items-index c.items-item.result c.loop-items-test.true
        c.items-item.is,
    ap (λ z. length (tokens_of z)) c.deref.ensures.value,
    c.decreases,
  ),
  tt,
)

pub chooses-returns-then-len-ge2 : goal.chooses-returns-then-len-ge2
chooses-returns-then-len-ge2 t c =
    let two : 2 ≤ length c.in-Group.alternatives.items = omega (arith, c.len.ensures, c.if-len-ge2.true) in
    c.each_chooses.ensures ∙ ap (list_all (λ items. all_choose items.items)) c.deref.ensures.value
    ∙ sym (ap chooses c.in-Group.is ∙ chooses-Group c.in-Group.alternatives ∙ by_alternatives c.in-Group.alternatives.items two)

pub chooses-returns-else-len-ge2 : goal.chooses-returns-else-len-ge2
chooses-returns-else-len-ge2 t c =
    let few : length c.in-Group.alternatives.items < 2 = omega (arith, c.len.ensures, c.if-len-ge2.false) in
    too_few c.len.result c.if-len-ge2.false
    ∙ sym (ap chooses c.in-Group.is ∙ chooses-Group c.in-Group.alternatives ∙ no_choice c.in-Group.alternatives.items few)
