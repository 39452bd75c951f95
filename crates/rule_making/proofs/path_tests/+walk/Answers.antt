-- Each item is walked over in its turn, and each alternative after its comma.
use Rattle.std.proofs.Common.{◌≡◌, ◌+◌, drop, Some, None, sym, ap, ◌∙◌, length, arith}
use Rattle.std.proofs.Math.ListN.{drop_of_length-le}
use Rattle.std.specs.Prelude.{option_and_then}
use Rattle.rule_globs.specs.Tokens.{tokens, tokens_of, opening, closing, with_commas}
use Rattle.rule_writer.specs.laws.CanonWrites.{length-Group, length_item, length_alternative}
use Rattle.rule_making.specs.inner.TokenTests.{step, walk}
use Rattle.rule_making.proofs.Walks.{walk_rest, parts_of, others_of, all_parts, items_step, rest_step, group_step, length_other}
use Rattle.rule_making.proofs.path_tests.+walk.Goals as goal

pub behind_items-loop-item-preserved : goal.behind_items-loop-item-preserved
behind_items-loop-item-preserved t c =
    let rest = drop (c.loop-item.item-index + 1) c.args.items.now in
    ap (option_and_then (walk (tokens_of rest))) c.in_ok-place.ensures
    ∙ sym (items_step c.args.items.now c.loop-item.item-index c.item-item.result c.loop-item.place c.loop-item-test.true c.item-item.is)
    ∙ c.loop-item.invariant

pub behind_items-returns-in_err-place : goal.behind_items-returns-in_err-place
behind_items-returns-in_err-place t c =
    let rest = drop (c.loop-item.item-index + 1) c.args.items.now in
    c.from_residual.ensures
    ∙ ap (option_and_then (walk (tokens_of rest))) c.in_err-place.ensures
    ∙ sym (items_step c.args.items.now c.loop-item.item-index c.item-item.result c.loop-item.place c.loop-item-test.true c.item-item.is)
    ∙ c.loop-item.invariant

pub behind_item-returns-in_ok-behind_alternatives-in-Group : goal.behind_item-returns-in_ok-behind_alternatives-in-Group
behind_item-returns-in_ok-behind_alternatives-in-Group t c =
    let same : c.deref.result.now ≡ c.in-Group.alternatives.items = c.deref.ensures.value in
    let one : step opening c.args.place ≡ Some c.in_ok-behind_opening-in-Group.field-0 = sym c.in_ok-behind_opening-in-Group.ensures in
    let all : walk (with_commas (parts_of c.in-Group.alternatives.items)) c.in_ok-behind_opening-in-Group.field-0
    ≡ Some c.in_ok-behind_alternatives-in-Group.field-0 =
    ap (λ list. walk (with_commas (parts_of list)) c.in_ok-behind_opening-in-Group.field-0) (sym same)
    ∙ sym c.in_ok-behind_alternatives-in-Group.ensures in
    c.behind_closing.ensures
    ∙ sym (ap (λ x. walk (tokens x) c.args.place) c.in-Group.is ∙ group_step c.in-Group.alternatives c.args.place
    ∙ ap (λ o. option_and_then (step closing) (option_and_then (walk (with_commas (parts_of c.in-Group.alternatives.items))) o)) one
    ∙ ap (option_and_then (step closing)) all)

pub behind_item-returns-in_err-behind_alternatives-in-Group : goal.behind_item-returns-in_err-behind_alternatives-in-Group
behind_item-returns-in_err-behind_alternatives-in-Group t c =
    let same : c.deref.result.now ≡ c.in-Group.alternatives.items = c.deref.ensures.value in
    let one : step opening c.args.place ≡ Some c.in_ok-behind_opening-in-Group.field-0 = sym c.in_ok-behind_opening-in-Group.ensures in
    let all : walk (with_commas (parts_of c.in-Group.alternatives.items)) c.in_ok-behind_opening-in-Group.field-0 ≡ None =
    ap (λ list. walk (with_commas (parts_of list)) c.in_ok-behind_opening-in-Group.field-0) (sym same)
    ∙ sym c.in_err-behind_alternatives-in-Group.ensures in
    c.from_residual-in_err-behind_alternatives-in-Group.ensures
    ∙ sym (ap (λ x. walk (tokens x) c.args.place) c.in-Group.is ∙ group_step c.in-Group.alternatives c.args.place
    ∙ ap (λ o. option_and_then (step closing) (option_and_then (walk (with_commas (parts_of c.in-Group.alternatives.items))) o)) one
    ∙ ap (option_and_then (step closing)) all)

pub behind_items-behind_item-requires : goal.behind_items-behind_item-requires
behind_items-behind_item-requires t c = (
  omega (arith, length_item c.args.items.now c.loop-item.item-index c.item-item.result c.loop-item-test.true c.item-item.is, c.decreases),
  tt,
)

pub behind_item-behind_alternatives-requires : goal.behind_item-behind_alternatives-requires
behind_item-behind_alternatives-requires t c = (
  omega (
    arith,
    length-Group c.args.item.now c.in-Group.alternatives c.in-Group.is,
    ap (λ z. length (with_commas (parts_of z)))
        c.deref.ensures.value,
    c.decreases,
  ),
  tt,
)

pub behind_alternatives-behind_items-requires : goal.behind_alternatives-behind_items-requires
behind_alternatives-behind_items-requires t c = (
  omega (
    arith,
    length_alternative c.args.alternatives.now 0 c.first-item.result c.in-len1-up.len_at_least
        c.first-item.is,
    ap (λ z. length (tokens_of z)) c.deref.ensures.value,
    c.decreases,
  ),
  tt,
)

pub behind_alternatives-behind_items-requires-in-loop-items : goal.behind_alternatives-behind_items-requires-in-loop-items
behind_alternatives-behind_items-requires-in-loop-items t c = (
  omega (
    arith,
    length_other c.args.alternatives.now c.loop-items.items-index c.items-item.result c.in-len1-up.len_at_least
        c.loop-items-test.true c.items-item.is,
    ap (λ z. length (tokens_of z)) c.deref-in-loop-items.ensures.value,
    c.decreases,
  ),
  tt,
)

pub behind_alternatives-returns-in_err-place : goal.behind_alternatives-returns-in_err-place
behind_alternatives-returns-in_err-place t c =
    let rest = parts_of (others_of c.args.alternatives.now) in
    c.from_residual.ensures
    ∙ ap (option_and_then (walk_rest rest)) (c.in_err-place.ensures ∙ ap (λ z. walk (tokens_of z) c.args.place) c.deref.ensures.value)
    ∙ sym (all_parts c.args.alternatives.now c.first-item.result c.args.place c.in-len1-up.len_at_least c.first-item.is)

pub behind_alternatives-returns-in_err-behind_between : goal.behind_alternatives-returns-in_err-behind_between
behind_alternatives-returns-in_err-behind_between t c =
    let others = others_of c.args.alternatives.now in
    let i = c.loop-items.items-index in
    let items = c.items-item.result in
    c.from_residual-in_err-behind_between.ensures
    ∙ ap (λ o. option_and_then (walk_rest (parts_of (drop (i + 1) others))) (option_and_then (walk (tokens_of items.items)) o))
    c.in_err-behind_between.ensures
    ∙ sym (rest_step others i items c.loop-items.place c.loop-items-test.true c.items-item.is)
    ∙ c.loop-items.invariant
    ∙ ap (option_and_then (walk_rest (parts_of others))) (c.in_ok-place.ensures ∙ ap (λ z. walk (tokens_of z) c.args.place)
    c.deref.ensures.value)
    ∙ sym (all_parts c.args.alternatives.now c.first-item.result c.args.place c.in-len1-up.len_at_least c.first-item.is)

pub behind_alternatives-returns-in_err-place-2 : goal.behind_alternatives-returns-in_err-place-2
behind_alternatives-returns-in_err-place-2 t c =
    let others = others_of c.args.alternatives.now in
    let i = c.loop-items.items-index in
    let items = c.items-item.result in
    let rest = walk_rest (parts_of (drop (i + 1) others)) in
    c.from_residual-in_err-place-2.ensures
    ∙ ap (option_and_then rest) (c.in_err-place-2.ensures ∙ ap (λ z. walk (tokens_of z) c.in_ok-behind_between.field-0)
    c.deref-in-loop-items.ensures.value)
    ∙ ap (λ o. option_and_then rest (option_and_then (walk (tokens_of items.items)) o)) c.in_ok-behind_between.ensures
    ∙ sym (rest_step others i items c.loop-items.place c.loop-items-test.true c.items-item.is)
    ∙ c.loop-items.invariant
    ∙ ap (option_and_then (walk_rest (parts_of others))) (c.in_ok-place.ensures ∙ ap (λ z. walk (tokens_of z) c.args.place)
    c.deref.ensures.value)
    ∙ sym (all_parts c.args.alternatives.now c.first-item.result c.args.place c.in-len1-up.len_at_least c.first-item.is)

pub behind_alternatives-loop-items-preserved : goal.behind_alternatives-loop-items-preserved
behind_alternatives-loop-items-preserved t c =
    let others = others_of c.args.alternatives.now in
    let i = c.loop-items.items-index in
    let items = c.items-item.result in
    let rest = walk_rest (parts_of (drop (i + 1) others)) in
    ap (option_and_then rest) (c.in_ok-place-2.ensures ∙ ap (λ z. walk (tokens_of z) c.in_ok-behind_between.field-0)
    c.deref-in-loop-items.ensures.value)
    ∙ ap (λ o. option_and_then rest (option_and_then (walk (tokens_of items.items)) o)) c.in_ok-behind_between.ensures
    ∙ sym (rest_step others i items c.loop-items.place c.loop-items-test.true c.items-item.is)
    ∙ c.loop-items.invariant

pub behind_alternatives-returns : goal.behind_alternatives-returns
behind_alternatives-returns t c =
    let others = others_of c.args.alternatives.now in
    ap (λ l. walk_rest (parts_of l) c.loop-items.place) (sym (drop_of_length-le others c.loop-items-test.false))
    ∙ c.loop-items.invariant
    ∙ ap (option_and_then (walk_rest (parts_of others))) (c.in_ok-place.ensures ∙ ap (λ z. walk (tokens_of z) c.args.place)
    c.deref.ensures.value)
    ∙ sym (all_parts c.args.alternatives.now c.first-item.result c.args.place c.in-len1-up.len_at_least c.first-item.is)
