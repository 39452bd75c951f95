-- What is left of the items or alternatives, from here; and the calls go down by the number of tokens.
use Rattle.std.proofs.Common.{◌≡◌, ◌+◌, ◌*◌, drop, length}
use Rattle.std.specs.List.{list_all}
use Rattle.rule_globs.specs.Tokens.{tokens, tokens_of, with_commas}
use Rattle.rule_writer.specs.laws.CanonWrites.{items_parts}
use Rattle.rule_making.specs.Choices.{all_choose}
use Rattle.rule_making.proofs.choices.+choices.Given as goal

abbrev pub invariant-groups_have_alternatives-loop-item : goal.invariant-groups_have_alternatives-loop-item
invariant-groups_have_alternatives-loop-item l = all_choose (drop l.item-index l.items) ≡ all_choose l.items

abbrev pub invariant-each_chooses-loop-items : goal.invariant-each_chooses-loop-items
invariant-each_chooses-loop-items l =
    list_all (λ items. all_choose items.items) (drop l.items-index l.alternatives)
    ≡ list_all (λ items. all_choose items.items) l.alternatives

abbrev pub decreases-chooses : goal.decreases-chooses
decreases-chooses l = 3 * length (tokens l.item.now)

abbrev pub decreases-groups_have_alternatives : goal.decreases-groups_have_alternatives
decreases-groups_have_alternatives l = 3 * length (tokens_of l.items.now) + 1

abbrev pub decreases-each_chooses : goal.decreases-each_chooses
decreases-each_chooses l = 3 * length (with_commas (items_parts l.alternatives.now)) + 2
