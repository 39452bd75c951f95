-- What is copied so far, and what is left to copy; and the calls go down by the number of tokens.
use Rattle.std.proofs.Common.{◌≡◌, ◌++◌, ◌+◌, ◌*◌, drop, length, IsTrue}
use Rattle.std.specs.List.{list_all}
use Rattle.rule_globs.specs.Tokens.{tokens, tokens_of, all_full, with_commas}
use Rattle.rule_writer.specs.laws.CanonWrites.{items_parts}
use Rattle.rule_making.proofs.copies.+copy.Given as goal

abbrev pub invariant-put_copies-loop-item : goal.invariant-put_copies-loop-item
invariant-put_copies-loop-item l = record {
  tokens : tokens_of l.copies.items ++ tokens_of (drop l.item-index l.items) ≡ tokens_of l.initial.copies.items ++ tokens_of l.items;
  full : all_full l.copies.items ≡ all_full l.initial.copies.items;
}

abbrev pub invariant-alternatives_copy-loop-items : goal.invariant-alternatives_copy-loop-items
invariant-alternatives_copy-loop-items l = record {
  tokens : items_parts l.copies.items ++ items_parts (drop l.items-index l.alternatives) ≡ items_parts l.alternatives;
  full : IsTrue (list_all (λ items. all_full items.items) l.copies.items);
}

abbrev pub decreases-item_copy : goal.decreases-item_copy
decreases-item_copy l = 3 * length (tokens l.item.now)

abbrev pub decreases-put_copies : goal.decreases-put_copies
decreases-put_copies l = 3 * length (tokens_of l.items.now) + 1

abbrev pub decreases-alternatives_copy : goal.decreases-alternatives_copy
decreases-alternatives_copy l = 3 * length (with_commas (items_parts l.alternatives.now)) + 2
