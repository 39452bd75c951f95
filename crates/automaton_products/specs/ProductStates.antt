-- The states of a product as they are built.
use Rattle.std.specs.Prelude.{◌≡◌, ℕ, ◌<◌, ◌≤◌, List, length, drop, Some, slice_get, slice_index_or}
use Rattle.names.specs.declared.record.Record.{Record}
use Rattle.automaton_rows.specs.Automata.{Automaton}
use Rattle.automaton_rows.specs.declared.range.TargetRange.{TargetRange}
use Rattle.automaton_rows.specs.Rows.{IsRowOf}
use Rattle.automaton_products.specs.declared.pairs.Pair.{Pair}
use Rattle.automaton_products.specs.Products.{AreFewPairs, next_pair, joined}

-- each byte leads from the pair to the pair of its target
abbrev pub IsJoinedRow : Automaton → Automaton → List Pair → Pair → List TargetRange → Type 0
IsJoinedRow a b pairs p row = IsRowOf (λ c t. slice_get pairs t ≡ Some (next_pair a b p c)) row

-- The first pairs have their rows and records. The pairs may be more.
pub record AreStates (a b : Automaton) (pairs : List Pair) (ranges : List TargetRange) (firsts : List ℕ) (records : List Record)
    (state : ℕ) : Type 0 where
  pub few : AreFewPairs a b pairs
  pub within : state ≤ length pairs
  pub each_row : length firsts ≡ state
  pub each_record : length records ≡ state
  pub row : (s : ℕ) (p : Pair) → s < state → slice_get pairs s ≡ Some p → IsJoinedRow a b pairs p (drop (slice_index_or firsts s 0) ranges)
  pub recorded : (s : ℕ) (p : Pair) (r q : Record) → s < state → slice_get pairs s ≡ Some p → slice_get a.records p.one ≡ Some r →
      slice_get b.records p.other ≡ Some q → slice_get records s ≡ Some (joined r q)
