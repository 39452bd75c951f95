-- The states so far.
use Rattle.std.proofs.Common.{◌≡◌, length}
use Rattle.automaton_products.specs.Products.{Keeps, pairs_of}
use Rattle.automaton_products.specs.ProductStates.{AreStates}
use Rattle.automaton_products.proofs.product_states.add_states.Given as goal

abbrev pub invariant-loop-state : goal.invariant-loop-state
invariant-loop-state l = record {
  kept : Keeps (pairs_of l.fn.pairs) (pairs_of l.pairs);
  count : length l.states.firsts.items ≡ l.state;
  states : AreStates l.one l.other (pairs_of l.pairs) l.states.ranges.items l.states.firsts.items l.states.records.items
      (length l.states.firsts.items);
}
