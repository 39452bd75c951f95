-- There is a state for each pair.
use Rattle.std.proofs.Common.{sym, subst}
use Rattle.automaton_products.specs.Products.{pairs_of, start_pair, IsProduct}
use Rattle.automaton_products.specs.laws.PairLaws.{kept_at}
use Rattle.automaton_products.proofs.WholeProducts.{are_rows, is_whole, is_product}
use Rattle.automaton_products.proofs.product_states.product.Goals as goal

pub of-requires-clause-rows : goal.of-requires-clause-rows
of-requires-clause-rows c =
    are_rows c.args.one.now c.args.other.now c.states.ensures.whole c.states-2.ensures.whole (pairs_of c.add_states.new.pairs)
    c.add_states.new.states.ranges.items c.add_states.new.states.firsts.items c.add_states.new.states.records.items c.in_ok-start.start
    c.in_ok-add_states.ensures.states c.in_ok-start.ensures.first
    (kept_at (pairs_of c.number_start.new.pairs) (pairs_of c.add_states.new.pairs) c.in_ok-start.start
    (start_pair c.args.one.now c.args.other.now) c.in_ok-add_states.ensures.kept c.in_ok-start.ensures.start)

pub of-requires-clause-whole : goal.of-requires-clause-whole
of-requires-clause-whole c =
    is_whole c.args.one.now c.args.other.now c.states.ensures.whole c.states-2.ensures.whole (pairs_of c.add_states.new.pairs)
    c.add_states.new.states.ranges.items c.add_states.new.states.firsts.items c.add_states.new.states.records.items c.in_ok-start.start
    c.in_ok-add_states.ensures.states c.in_ok-start.ensures.first
    (kept_at (pairs_of c.number_start.new.pairs) (pairs_of c.add_states.new.pairs) c.in_ok-start.start
    (start_pair c.args.one.now c.args.other.now) c.in_ok-add_states.ensures.kept c.in_ok-start.ensures.start)

pub returns-clause-ok : goal.returns-clause-ok
returns-clause-ok c =
    subst (IsProduct c.args.one.now c.args.other.now) (sym c.of.ensures)
    (is_product c.args.one.now c.args.other.now c.states.ensures.whole c.states-2.ensures.whole (pairs_of c.add_states.new.pairs)
    c.add_states.new.states.ranges.items c.add_states.new.states.firsts.items c.add_states.new.states.records.items c.in_ok-start.start
    c.in_ok-add_states.ensures.states c.in_ok-start.ensures.first
    (kept_at (pairs_of c.number_start.new.pairs) (pairs_of c.add_states.new.pairs) c.in_ok-start.start
    (start_pair c.args.one.now c.args.other.now) c.in_ok-add_states.ensures.kept c.in_ok-start.ensures.start))
