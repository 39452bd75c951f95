-- Two automata run at once.
use Rattle.std.specs.Prelude.{◌≡◌, ◌⊎◌, ℕ, ◌<◌, ◌≤◌, List, ◌++◌, length, Some, slice_get}
use Rattle.names.specs.Bytes.{are_bytes}
use Rattle.names.specs.declared.record.Record.{Record}
use Rattle.names.specs.declared.record.LeastHits.{LeastHits}
use Rattle.names.specs.Hits.{first_number}
use Rattle.names.specs.Least.{hits_of, record_of}
use Rattle.automaton_rows.specs.declared.fault.CompileFault.{CompileFault}
use Rattle.automaton_rows.specs.declared.fault.CompileFault.TheVariants.{TooManyStates, NoMemory}
use Rattle.automaton_rows.specs.Automata.{Automaton, IsWhole, target, state_after, most_sets}
use Rattle.automaton_products.specs.declared.pairs.Pair.{Pair}
use Rattle.automaton_products.specs.declared.pairs.Pairs.{Pairs}
use Rattle.automaton_products.specs.Numbers.{AreDistinct}

abbrev pub pair : ℕ → ℕ → Pair
pair one other = record { one = one; other = other }

-- the pair of states in which nothing is live
abbrev pub dead_pair : Pair
dead_pair = pair 0 0

abbrev pub start_pair : Automaton → Automaton → Pair
start_pair a b = pair a.start b.start

-- the pair of states after one more byte
abbrev pub next_pair : Automaton → Automaton → Pair → ℕ → Pair
next_pair a b p c = pair (target a p.one c) (target b p.other c)

-- some bytes lead to this pair
abbrev pub IsMet : Automaton → Automaton → Pair → Type 0
IsMet a b p = (bytes : List ℕ) × are_bytes bytes × (p ≡ pair (state_after a bytes) (state_after b bytes))

-- such a pair, or the dead one
abbrev pub IsReached : Automaton → Automaton → Pair → Type 0
IsReached a b p = (p ≡ dead_pair) ⊎ IsMet a b p

-- Pairs of states: the dead one first, and others that some bytes lead to. No two are the same.
pub record ArePairs (a b : Automaton) (pairs : List Pair) : Type 0 where
  pub dead : slice_get pairs 0 ≡ Some dead_pair
  pub distinct : AreDistinct pairs
  pub met : (i : ℕ) (p : Pair) → 0 < i → slice_get pairs i ≡ Some p → IsMet a b p

-- not too many
abbrev pub AreFewPairs : Automaton → Automaton → List Pair → Type 0
AreFewPairs a b pairs = ArePairs a b pairs × (length pairs ≤ most_sets)

-- the pairs, in the order of their numbers
abbrev pub pairs_of : Pairs → List Pair
pairs_of p = p.pairs.keys

-- those that were there keep their numbers
abbrev pub Keeps : List Pair → List Pair → Type 0
Keeps old new = (more : List Pair) × (new ≡ old ++ more)

-- the hits of both: that of the first, if it has one
abbrev pub joined_hits : LeastHits → LeastHits → LeastHits
joined_hits h k = record { allow = first_number h.allow k.allow; deny = first_number h.deny k.deny }

abbrev pub joined : Record → Record → Record
joined r s = record_of (λ p. joined_hits (hits_of r p) (hits_of s p))

-- The automaton that runs both at once: it has a state for each pair that is met, and state 0 for the dead one.
pub record IsProduct (a b c : Automaton) : Type 0 where
  pub pairs : List Pair
  pub are_pairs : ArePairs a b pairs
  pub each_row : length c.rows ≡ length pairs
  pub whole : IsWhole c
  pub starts : slice_get pairs c.start ≡ Some (start_pair a b)
  pub steps : (s byte : ℕ) (p : Pair) → slice_get pairs s ≡ Some p → byte < 256 → slice_get pairs (target c s byte)
      ≡ Some (next_pair a b p byte)
  pub records : (s : ℕ) (p : Pair) (r q : Record) → slice_get pairs s ≡ Some p → slice_get a.records p.one ≡ Some r →
      slice_get b.records p.other ≡ Some q → slice_get c.records s ≡ Some (joined r q)

-- why there is none
abbrev pub IsProductFault : Automaton → Automaton → CompileFault → Type 0
IsProductFault a b TooManyStates = (pairs : List Pair) × ArePairs a b pairs × (most_sets < length pairs)
IsProductFault a b NoMemory = Unit {0}
