use Rattle.std.proofs.Common.{ℕ, List, [], set, ap, ◌∙◌}
use Rattle.tree_row.specs.OpeningRow.{opening_row}
use Rattle.row_rule.specs.Steps.{at_rest}
use Rattle.dentry_cache.proofs.First.{first_words, rule_first, knows_first}
use Rattle.dentry_cache.proofs.Tallied.{tally_first}
use Rattle.dentry_cache.proofs.kept_row.KeptRow.new.Goals as goal

pub of_words-requires : goal.of_words-requires
of_words-requires c =
    let zeros = c.in-Ok.ensures.items_if_clones_equal (λ y h. h) in
    let first = first_words c.args.capacity _ c.index_length.ensures.length in
    let words = c.as_slice.ensures.value ∙ (ap (λ (xs : List ℕ). set (set xs 1 1) 2 1) zeros ∙ first) in
    (at_rest [] (opening_row c.args.capacity), rule_first c.args.capacity _ words)

pub invariant_of-result : goal.invariant_of-result
invariant_of-result c =
    let zeros = c.in-Ok.ensures.items_if_clones_equal (λ y h. h) in
    let first = first_words c.args.capacity _ c.index_length.ensures.length in
    let words = c.as_slice.ensures.value ∙ (ap (λ (xs : List ℕ). set (set xs 1 1) 2 1) zeros ∙ first) in
    let made = c.in-Ok-of_words.ensures in (
      rw c.in-Ok-new.ensures.ok (knows_first _ _ _ c.args.capacity _ c.requires words made.0 made.2 made.4 made.5),
      tally_first _ c.args.capacity _ made.4 c.in_ok-tally.ensures,
    )
