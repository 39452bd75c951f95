-- Both rows are at the range of the byte, and the bytes before it have their pairs.
use Rattle.std.proofs.Common.{◌≡◌, ◌-◌, ◌<◌, ◌≤◌, ℕ, Some, slice_get}
use Rattle.automaton_rows.specs.Automata.{target}
use Rattle.automaton_rows.specs.Rows.{target_in, IsRowFrom}
use Rattle.automaton_rows.specs.laws.Fronts.{IsSoFar}
use Rattle.automaton_products.specs.Products.{AreFewPairs, Keeps, next_pair, pairs_of}
use Rattle.automaton_products.proofs.product_states.add_row.Given as goal

abbrev pub invariant-loop-target : goal.invariant-loop-target
invariant-loop-target l = record {
  pairs : AreFewPairs l.one l.other (pairs_of l.pairs);
  kept : Keeps (pairs_of l.fn.pairs) (pairs_of l.pairs);
  first : IsRowFrom l.from l.first;
  second : IsRowFrom l.from l.second;
  first_targets : (c : ℕ) → l.from ≤ c → c < 256 → target_in l.first c ≡ target l.one l.fn.pair.one c;
  second_targets : (c : ℕ) → l.from ≤ c → c < 256 → target_in l.second c ≡ target l.other l.fn.pair.other c;
  so_far : IsSoFar (λ c t. slice_get (pairs_of l.pairs) t ≡ Some (next_pair l.one l.other l.fn.pair c)) l.fn.ranges.items
      l.ranges.items l.from;
}

abbrev pub decreases-loop-target : goal.decreases-loop-target
decreases-loop-target l = 256 - l.from
