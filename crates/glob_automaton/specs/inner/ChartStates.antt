-- The states of a chart: its sets of live places, each reached by some bytes.
use Rattle.std.specs.Prelude.{◌≡◌, ◌≢◌, ◌↔◌, ℕ, ◌+◌, ◌<◌, ◌≤◌, List, [], ◌∷◌, ◌++◌, length, Some, slice_get, slice_index_or, Contains}
use Rattle.std.specs.Prelude.{IsTrue}
use Rattle.names.specs.declared.permissions.Permission.{Permission}
use Rattle.names.specs.Permissions.{has}
use Rattle.names.specs.declared.kind.RuleKind.{RuleKind}
use Rattle.names.specs.declared.kind.RuleKind.TheVariants.{Allow, Deny}
use Rattle.glob_automaton.specs.declared.chart.Chart.{Chart}
use Rattle.glob_automaton.specs.declared.chart.ChartRule.{ChartRule}
use Rattle.glob_automaton.specs.declared.chart.ChartPlace.{ChartPlace}
use Rattle.automaton_rows.specs.declared.fault.CompileFault.{CompileFault}
use Rattle.automaton_rows.specs.declared.fault.CompileFault.TheVariants.{TooManyStates, NoMemory}
use Rattle.names.specs.declared.record.Record.{Record}
use Rattle.automaton_rows.specs.Automata.{Automaton, target, most_sets, IsWhole}
use Rattle.glob_automaton.specs.inner.Chart.{IsIn, takes_byte}
use Rattle.glob_automaton.specs.inner.GatheredSets.{IsAscending}
use Rattle.names.specs.Least.{hits_of, IsLeastOrNone}

-- all of these are places of the chart
abbrev pub ArePlaces : Chart → List ℕ → Type 0
ArePlaces chart set = (q : ℕ) → Contains set q → q < length chart.places.items

-- what is live before the first byte
pub record IsStartOf (chart : Chart) (set : List ℕ) : Type 0 where
  pub ascending : IsAscending set
  pub live : (q : ℕ) → Contains set q ↔ ((n : ℕ) × (d : ChartRule) × (slice_get chart.rules.items n ≡ Some d)
      × IsIn chart.entries.items d.start q)

-- what is live after one more byte
pub record IsStepOf (chart : Chart) (set : List ℕ) (b : ℕ) (next : List ℕ) : Type 0 where
  pub ascending : IsAscending next
  pub live : (q : ℕ) → Contains next q ↔ ((p : ℕ) × (place : ChartPlace) × Contains set p × (slice_get chart.places.items p ≡ Some place)
      × IsTrue (takes_byte chart.classes.items place.takes b) × IsIn chart.entries.items place.behind q)

-- the set that is live after these bytes
pub data IsReached : Chart → List ℕ → List ℕ → Type 0 where
  begins : (chart : Chart) (set : List ℕ) → IsStartOf chart set → IsReached chart [] set
  goes_on : (chart : Chart) (bytes set next : List ℕ) (b : ℕ) → IsReached chart bytes set → b < 256 → IsStepOf chart set b next →
      IsReached chart (bytes ++ b ∷ []) next

-- n is the number of a rule of this kind that holds p and whose end is in the set
abbrev pub EndsIn : Chart → List ℕ → RuleKind → Permission → ℕ → Type 0
EndsIn chart set kind p n = (i : ℕ) × (d : ChartRule) × (n ≡ i + 1) × (slice_get chart.rules.items i ≡ Some d) × (d.kind ≡ kind)
    × IsTrue (has d.perms p) × Contains set d.end

abbrev pub IsRecordOf : Chart → List ℕ → Record → Type 0
IsRecordOf chart set r = (p : Permission) →
    IsLeastOrNone (EndsIn chart set Allow p) (hits_of r p).allow × IsLeastOrNone (EndsIn chart set Deny p) (hits_of r p).deny

-- Sets of a chart: the empty one, and others that some bytes reach, none of which is empty; no two are the same.
pub record AreSets (chart : Chart) (sets : List (List ℕ)) : Type 0 where
  pub some : 0 < length sets
  pub empty : slice_index_or sets 0 [] ≡ []
  pub different : (i j : ℕ) → i < j → j < length sets → slice_index_or sets i [] ≢ slice_index_or sets j []
  pub reached : (i : ℕ) → 0 < i → i < length sets → (bytes : List ℕ) × IsReached chart bytes (slice_index_or sets i [])

-- the automaton's states are sets of the chart, one each
pub record IsBuilt (chart : Chart) (a : Automaton) : Type 0 where
  pub sets : List (List ℕ)
  pub are_sets : AreSets chart sets
  pub each_row : length a.rows ≡ length sets
  pub whole : IsWhole a
  pub start_first : a.start ≤ 1
  pub begins : IsStartOf chart (slice_index_or sets a.start [])
  pub steps : (s b : ℕ) → s < length sets → b < 256 → IsStepOf chart (slice_index_or sets s []) b (slice_index_or sets (target a s b) [])
  pub records : (s : ℕ) (none : Record) → s < length sets → IsRecordOf chart (slice_index_or sets s []) (slice_index_or a.records s none)

-- why nothing was built
abbrev pub IsBuildFault : Chart → CompileFault → Type 0
IsBuildFault chart TooManyStates = (sets : List (List ℕ)) × AreSets chart sets × (most_sets < length sets)
IsBuildFault chart NoMemory = Unit {0}
