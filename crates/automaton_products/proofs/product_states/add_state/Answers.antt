-- One more state.
use Rattle.std.proofs.Common.{◌≡◌, ◌∙◌, ◌+◌, ◌++◌, ◌∷◌, [], List, ℕ, length, sym, ap, subst, arith}
use Rattle.std.proofs.lemmas.List.{length-append}
use Rattle.names.specs.declared.record.Record.{Record}
use Rattle.automaton_rows.specs.declared.range.TargetRange.{TargetRange}
use Rattle.automaton_products.specs.Products.{pairs_of}
use Rattle.automaton_products.specs.ProductStates.{AreStates}
use Rattle.automaton_products.specs.laws.PairLaws.{pair_reached, reached_within}
use Rattle.automaton_products.proofs.JoinedStates.{one_state_more}
use Rattle.automaton_products.proofs.product_states.add_state.Goals as goal

pub record_at-requires : goal.record_at-requires
record_at-requires c =
    (reached_within c.args.one.now c.args.other.now c.requires.whole_one c.requires.whole_other c.args.pair
    (pair_reached c.args.one.now c.args.other.now (pairs_of c.args.pairs.now) (length c.args.states.now.firsts.items) c.args.pair
    c.requires.states.few.0 c.requires.pair)).0

pub record_at-requires-2 : goal.record_at-requires-2
record_at-requires-2 c =
    (reached_within c.args.one.now c.args.other.now c.requires.whole_one c.requires.whole_other c.args.pair
    (pair_reached c.args.one.now c.args.other.now (pairs_of c.args.pairs.now) (length c.args.states.now.firsts.items) c.args.pair
    c.requires.states.few.0 c.requires.pair)).1

pub add_row-requires-clause-met : goal.add_row-requires-clause-met
add_row-requires-clause-met c =
    pair_reached c.args.one.now c.args.other.now (pairs_of c.args.pairs.now) (length c.args.states.now.firsts.items) c.args.pair
    c.requires.states.few.0 c.requires.pair

pub returns-clause-states : goal.returns-clause-states
returns-clause-states c =
    let a = c.args.one.now in
    let b = c.args.other.now in
    let new = pairs_of c.add_row.new.pairs in
    let ranges = c.args.states.now.ranges.items in
    let firsts = c.args.states.now.firsts.items in
    let records = c.args.states.now.records.items in
    let row = c.in_ok-add_row.ensures.row in
    let whole : AreStates a b new (ranges ++ row.0) (firsts ++ length ranges ∷ []) (records ++ c.joined-record.result ∷ [])
    (length firsts + 1) =
    subst (λ (z : Record). AreStates a b new (ranges ++ row.0) (firsts ++ length ranges ∷ []) (records ++ z ∷ []) (length firsts + 1))
    (sym c.joined-record.ensures) (one_state_more a b (pairs_of c.args.pairs.now) new ranges row.0 firsts records (length firsts)
    c.args.pair c.record_at.result c.record_at-2.result
    c.requires.states c.requires.pair c.in_ok-add_row.ensures.pairs c.in_ok-add_row.ensures.kept row.2 c.record_at.ensures
    c.record_at-2.ensures) in
    let added : c.keep.new.list.items ≡ firsts ++ length ranges ∷ [] = c.in_ok-keep.ensures ∙ ap (λ z. firsts ++ z ∷ [])
    c.count-first.ensures in
    let count : length firsts + 1 ≡ length c.keep.new.list.items =
    omega (arith, ap length added, length-append firsts (length ranges ∷ [])) in
    subst (λ (z : ℕ). AreStates a b new c.add_row.new.ranges.items c.keep.new.list.items c.keep-2.new.list.items z) count
    (subst (λ (z : List Record). AreStates a b new c.add_row.new.ranges.items c.keep.new.list.items z (length firsts + 1))
    (sym c.in_ok-keep-2.ensures)
    (subst (λ (z : List ℕ). AreStates a b new c.add_row.new.ranges.items z (records ++ c.joined-record.result ∷ [])
    (length firsts + 1)) (sym added)
    (subst (λ (z : List TargetRange). AreStates a b new z (firsts ++ length ranges ∷ []) (records ++ c.joined-record.result ∷ [])
    (length firsts + 1)) (sym row.1) whole)))
