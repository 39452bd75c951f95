-- What is left to walk, from here; and the calls go down by the number of tokens.
use Rattle.std.proofs.Common.{◌≡◌, ◌+◌, ◌*◌, drop, length}
use Rattle.rule_globs.specs.Tokens.{tokens, tokens_of, with_commas}
use Rattle.rule_making.specs.inner.TokenTests.{walk}
use Rattle.rule_making.proofs.Walks.{walk_rest, parts_of}
use Rattle.rule_making.proofs.path_tests.+walk.Given as goal

abbrev pub invariant-behind_items-loop-item : goal.invariant-behind_items-loop-item
invariant-behind_items-loop-item l =
    walk (tokens_of (drop l.item-index l.items)) l.place ≡ walk (tokens_of l.items) l.initial.place

abbrev pub invariant-behind_alternatives-loop-items : goal.invariant-behind_alternatives-loop-items
invariant-behind_alternatives-loop-items l =
    walk_rest (parts_of (drop l.items-index l.others)) l.place ≡ walk_rest (parts_of l.others) l.initial.place

abbrev pub decreases-behind_item : goal.decreases-behind_item
decreases-behind_item l = 3 * length (tokens l.item.now)

abbrev pub decreases-behind_items : goal.decreases-behind_items
decreases-behind_items l = 3 * length (tokens_of l.items.now) + 1

abbrev pub decreases-behind_alternatives : goal.decreases-behind_alternatives
decreases-behind_alternatives l = 3 * length (with_commas (parts_of l.alternatives.now)) + 2
