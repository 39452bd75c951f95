-- A set of places as it is gathered.
use Rattle.std.specs.Prelude.{◌≡◌, ◌↔◌, ℕ, true, List, length, Some, slice_get}
pub use Rattle.glob_automaton.specs.inner.AscendingLists.{IsAscending}
use Rattle.glob_automaton.specs.declared.chart.Chart.{Chart}
use Rattle.glob_automaton.specs.declared.chart.Entry.{Entry}
use Rattle.glob_automaton.specs.declared.closures.Closures.{Closures}
use Rattle.glob_automaton.specs.declared.place_bits.Closure.{Closure}
use Rattle.glob_automaton.specs.declared.sets.Gathering.{Gathering}
use Rattle.glob_automaton.specs.inner.Chart.{IsIn}
use Rattle.glob_automaton.specs.inner.PlaceBits.{has_from, has_place, AreWithin}

-- each closure has the places that are live at its entry
abbrev pub AreClosures : List Entry → Closures → Type 0
AreClosures entries closures = (e : ℕ) (c : Closure) → slice_get closures.closures.items e ≡ Some c → (q : ℕ) →
    (has_from c.first c.words.items q ≡ true) ↔ IsIn entries e q

-- what it takes to gather sets of a chart
pub record IsGathering (chart : Chart) (g : Gathering) : Type 0 where
  pub closures : AreClosures chart.entries.items g.closures
  pub long : length g.closures.closures.items ≡ length chart.entries.items
  pub within : AreWithin g.bits

-- the place is in the set that is gathered
abbrev pub Holds : Gathering → ℕ → Type 0
Holds g q = has_place g.bits.words.items q ≡ true
