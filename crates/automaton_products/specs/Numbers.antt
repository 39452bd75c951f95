-- Numbers, given in the order in which keys are met.
use Rattle.std.specs.Prelude.{◌≡◌, ◌⊎◌, ℕ, ◌<◌, ◌≤◌, List, [], ◌∷◌, ◌++◌, length, Some, slice_get}
use Rattle.automaton_rows.specs.declared.fault.CompileFault.{CompileFault}
use Rattle.automaton_rows.specs.declared.fault.CompileFault.TheVariants.{TooManyStates, NoMemory}
use Rattle.automaton_rows.specs.Automata.{most_sets}

-- no two are the same
abbrev pub AreDistinct : {K : Type 0} → List K → Type 0
AreDistinct {K} keys = (i j : ℕ) (k : K) → i < j → slice_get keys i ≡ Some k → ¬ (slice_get keys j ≡ Some k)

-- it isn't among them
abbrev pub IsAbsent : {K : Type 0} → List K → K → Type 0
IsAbsent {K} keys key = (i : ℕ) → ¬ (slice_get keys i ≡ Some key)

-- The key has its number. If it is new, it is the last.
pub record IsNumbered {K : Type 0} (old new : List K) (key : K) (number : ℕ) : Type 0 where
  pub at : slice_get new number ≡ Some key
  pub few : length new ≤ most_sets
  pub distinct : AreDistinct new
  pub grows : (new ≡ old) ⊎ (new ≡ old ++ key ∷ [])

-- why a key has no number
abbrev pub IsNumberFault : {K : Type 0} → List K → K → CompileFault → Type 0
IsNumberFault {K} old key TooManyStates = (length old ≡ most_sets) × AreDistinct old × IsAbsent old key
IsNumberFault {K} old key NoMemory = Unit {0}
