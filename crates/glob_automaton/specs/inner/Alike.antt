-- Bytes that are taken alike, and those that a place takes alone.
use Rattle.std.specs.Prelude.{◌≡◌, ℕ, ◌-◌, ◌<◌, ◌≤◌, Bool, false, List, length, Some, slice_get, slice_index_or, true, Contains}
use Rattle.glob_automaton.specs.declared.chart.Chart.{Chart}
use Rattle.glob_automaton.specs.declared.chart.ChartPlace.{ChartPlace}
use Rattle.glob_automaton.specs.declared.chart.Label.{Label}
use Rattle.glob_automaton.specs.declared.chart.Label.TheVariants as label
use Rattle.glob_automaton.specs.inner.Chart.{takes_byte}
use Rattle.glob_automaton.specs.inner.Drawings.{IsKnown}
use Rattle.glob_automaton.specs.inner.PlaceBits.{has_place}

-- the least byte alike to a byte
abbrev pub least_of : List ℕ → ℕ → ℕ
least_of least b = slice_index_or least b 0

-- Each byte has a least one, which is not above it and is its own least one.
pub record IsAlike (least : List ℕ) : Type 0 where
  pub long : length least ≡ 256
  pub below : (b : ℕ) → b < 256 → least_of least b ≤ b
  pub own : (b : ℕ) → b < 256 → least_of least (least_of least b) ≡ least_of least b

-- `taken` says the same of a byte and of its least one, which was alike to it before.
pub record IsSplit (old : List ℕ) (taken : List Bool) (new : List ℕ) : Type 0 where
  pub alike : IsAlike new
  pub taken_alike : (b : ℕ) → b < 256 → slice_index_or taken (least_of new b) false ≡ slice_index_or taken b false
  pub within : (b : ℕ) → b < 256 → least_of old (least_of new b) ≡ least_of old b

-- it isn't one byte alone that is taken
abbrev pub NamesNone : Label → Type 0
NamesNone (label.Byte a) = ⊥
NamesNone label.InComponent = Unit {0}
NamesNone label.Any = Unit {0}
NamesNone (label.Class n) = Unit {0}
NamesNone label.Nothing = Unit {0}

-- a byte and its least one are taken alike wherever it isn't one byte alone that is taken
pub record AreAlike (chart : Chart) (least : List ℕ) : Type 0 where
  pub alike : IsAlike least
  pub taken_alike : (b : ℕ) (by : Label) → b < 256 → IsKnown chart by → NamesNone by →
      takes_byte chart.classes.items by (least_of least b) ≡ takes_byte chart.classes.items by b

-- each byte that a place of the set takes alone is marked
pub record AreNamed (chart : Chart) (set : List ℕ) (named : List Bool) : Type 0 where
  pub long : length named ≡ 256
  pub each : (p b : ℕ) (place : ChartPlace) → Contains set p → slice_get chart.places.items p ≡ Some place →
      place.takes ≡ label.Byte b → b < 256 →
      slice_index_or named b false ≡ true

-- two bytes are alike, and neither is marked
pub record AreLike (least : List ℕ) (named : List Bool) (one other : ℕ) : Type 0 where
  pub alike : least_of least one ≡ least_of least other
  pub one_unmarked : slice_index_or named one false ≡ false
  pub other_unmarked : slice_index_or named other false ≡ false

-- each byte that isn't an edge is alike to the byte before it
abbrev pub AreEdges : List ℕ → List ℕ → Type 0
AreEdges least edges = (b : ℕ) → 0 < b → b < 256 → has_place edges b ≡ false → least_of least (b - 1) ≡ least_of least b
