-- The sets so far, each with its number, and the row of one of them.
use Rattle.std.specs.Prelude.{◌≡◌, ◌≢◌, ◌⊎◌, ℕ, ◌<◌, ◌≤◌, List, [], ◌∷◌, ◌++◌, length, map, drop, slice_index_or, Contains}
use Rattle.glob_automaton.specs.declared.chart.Chart.{Chart}
use Rattle.glob_automaton.specs.declared.subsets.Sets.{Sets}
use Rattle.automaton_rows.specs.declared.range.TargetRange.{TargetRange}
use Rattle.automaton_rows.specs.Rows.{IsRowOf, rows_of}
use Rattle.automaton_rows.specs.declared.fault.CompileFault.{CompileFault}
use Rattle.automaton_rows.specs.declared.fault.CompileFault.TheVariants.{TooManyStates, NoMemory}
use Rattle.names.specs.declared.record.Record.{Record}
use Rattle.automaton_rows.specs.Automata.{Automaton, most_sets}
use Rattle.glob_automaton.specs.inner.ChartStates.{IsStartOf, IsStepOf, IsRecordOf, AreSets}

-- the sets, in the order of their numbers
abbrev pub lists_of : Sets → List (List ℕ)
lists_of s = map (λ v. v.items) s.sets.keys

-- no two are the same
abbrev pub AreDistinct : List (List ℕ) → Type 0
AreDistinct sets = (i j : ℕ) → i < j → j < length sets → slice_index_or sets i [] ≢ slice_index_or sets j []

-- The set has its number. If it is new, it is the last.
pub record IsNumbered (old new : List (List ℕ)) (set : List ℕ) (number : ℕ) : Type 0 where
  pub there : number < length new
  pub at : slice_index_or new number [] ≡ set
  pub few : length new ≤ most_sets
  pub distinct : AreDistinct new
  pub grows : (new ≡ old) ⊎ ((new ≡ old ++ set ∷ []) × ¬ (Contains old set))

-- why a set has no number
abbrev pub IsNumberFault : List (List ℕ) → List ℕ → CompileFault → Type 0
IsNumberFault old set TooManyStates = (length old ≡ most_sets) × AreDistinct old × ¬ (Contains old set)
IsNumberFault old set NoMemory = Unit {0}

-- sets of the chart, not too many
abbrev pub AreFewSets : Chart → List (List ℕ) → Type 0
AreFewSets chart sets = AreSets chart sets × (length sets ≤ most_sets)

-- the sets that were there have their numbers still
abbrev pub Keeps : List (List ℕ) → List (List ℕ) → Type 0
Keeps old new = (more : List (List ℕ)) × (new ≡ old ++ more)

-- the byte leads from the set to the set of this number
abbrev pub IsTargetOf : Chart → List (List ℕ) → List ℕ → ℕ → ℕ → Type 0
IsTargetOf chart sets set b target = (target < length sets) × IsStepOf chart set b (slice_index_or sets target [])

-- a row in which each byte leads from the set to the set of its target
abbrev pub IsRowOfSet : Chart → List (List ℕ) → List ℕ → List TargetRange → Type 0
IsRowOfSet chart sets set row = IsRowOf (IsTargetOf chart sets set) row

-- The first states have their rows and records. The sets may be more.
pub record AreStates (chart : Chart) (sets : List (List ℕ)) (ranges : List TargetRange) (firsts : List ℕ) (records : List Record)
    (start state : ℕ) : Type 0 where
  pub sets_few : AreFewSets chart sets
  pub start_there : start < length sets
  pub start_first : start ≤ 1
  pub begun : IsStartOf chart (slice_index_or sets start [])
  pub within : state ≤ length sets
  pub each_row : length firsts ≡ state
  pub each_record : length records ≡ state
  pub row : (s : ℕ) → s < state → IsRowOfSet chart sets (slice_index_or sets s []) (drop (slice_index_or firsts s 0) ranges)
  pub recorded : (s : ℕ) (none : Record) → s < state → IsRecordOf chart (slice_index_or sets s []) (slice_index_or records s none)

abbrev pub tables : List TargetRange → List ℕ → List Record → ℕ → Automaton
tables ranges firsts records start = record { rows = rows_of ranges firsts; records = records; start = start }
