-- What is left to add, from here; and the calls go down by the number of tokens.
use Rattle.std.proofs.Common.{◌≡◌, ◌++◌, ◌+◌, ◌*◌, drop, length}
use Rattle.std.specs.List.{flat_map}
use Rattle.rule_writer.specs.Canonical.{token_text}
use Rattle.rule_globs.specs.Tokens.{tokens, tokens_of, with_commas}
use Rattle.rule_writer.specs.laws.CanonWrites.{parts_text, items_parts}
use Rattle.rule_writer.proofs.writer.+write.Given as goal

abbrev pub invariant-put_items-loop-item : goal.invariant-put_items-loop-item
invariant-put_items-loop-item l =
    l.text.items ++ flat_map token_text (tokens_of (drop l.item-index l.items))
    ≡ l.initial.text.items ++ flat_map token_text (tokens_of l.items)

abbrev pub invariant-put_alternatives-loop-items : goal.invariant-put_alternatives-loop-items
invariant-put_alternatives-loop-items l =
    l.text.items ++ parts_text l.first (items_parts (drop l.items-index l.alternatives))
    ≡ l.initial.text.items ++ flat_map token_text (with_commas (items_parts l.alternatives))

abbrev pub decreases-put_item : goal.decreases-put_item
decreases-put_item l = 3 * length (tokens l.item.now)

abbrev pub decreases-put_items : goal.decreases-put_items
decreases-put_items l = 3 * length (tokens_of l.items.now) + 1

abbrev pub decreases-put_alternatives : goal.decreases-put_alternatives
decreases-put_alternatives l = 3 * length (with_commas (items_parts l.alternatives.now)) + 2
