-- What a chart has of a pattern, and of a profile's rules.
use Rattle.std.specs.Prelude.{◌≡◌, ◌↔◌, ℕ, ◌+◌, ◌<◌, ◌≤◌, List, [], ◌∷◌, ◌++◌, length, Some, slice_get, IsTrue}
use Rattle.names.specs.Permissions.{held}
use Rattle.rule_globs.specs.Glob.{Glob, fits, ByteSet, places}
use Rattle.rule_globs.specs.Follow.{Starts, TakesAt, Goes}
use Rattle.rule_profile.specs.Profile.{RuleValue, pattern}
use Rattle.glob_automaton.specs.declared.chart.Chart.{Chart}
use Rattle.glob_automaton.specs.declared.chart.ChartRule.{ChartRule}
use Rattle.glob_automaton.specs.declared.chart.ChartPlace.{ChartPlace}
use Rattle.glob_automaton.specs.declared.chart.Label.{Label}
use Rattle.glob_automaton.specs.declared.chart.Label.TheVariants as label
use Rattle.glob_automaton.specs.inner.Chart.{IsIn, IsOrdered, takes_byte}

-- the chart may be drawn on, before the entry `behind`
pub record IsReady (chart : Chart) (behind : ℕ) : Type 0 where
  pub ordered : IsOrdered chart.entries.items
  pub there : behind < length chart.entries.items

-- a set of bytes, as far as bytes go
abbrev pub TakesSet : Chart → Label → ByteSet → Type 0
TakesSet chart takes set = (b : ℕ) → b < 256 → takes_byte chart.classes.items takes b ≡ fits set b

-- the second list begins with the first
abbrev pub Grows : {X : Type 0} → List X → List X → Type 0
Grows {X} old new = (more : List X) × (new ≡ old ++ more)

-- a class that a place takes is in the chart
abbrev pub IsKnown : Chart → Label → Type 0
IsKnown chart (label.Class n) = n < length chart.classes.items
IsKnown chart (label.Byte b) = Unit {0}
IsKnown chart label.InComponent = Unit {0}
IsKnown chart label.Any = Unit {0}
IsKnown chart label.Nothing = Unit {0}

-- A pattern was drawn before the entry `behind`: its places are the next numbers, the entry `start` is live where the pattern
-- begins, and each place takes its bytes and goes on to what is live then. What was there before stays.
pub record IsDrawn (old new : Chart) (g : Glob) (behind start : ℕ) : Type 0 where
  pub places_stay : Grows old.places.items new.places.items
  pub entries_stay : Grows old.entries.items new.entries.items
  pub classes_stay : Grows old.classes.items new.classes.items
  pub rules_stay : new.rules.items ≡ old.rules.items
  pub count : length new.places.items ≡ length old.places.items + places g
  pub ready : IsReady new start
  pub starts : (q : ℕ) → IsIn new.entries.items start q ↔ Starts g (length old.places.items) (IsIn old.entries.items behind) q
  pub taken : (p b : ℕ) (place : ChartPlace) → length old.places.items ≤ p → slice_get new.places.items p ≡ Some place → b < 256 →
      IsTrue (takes_byte new.classes.items place.takes b) ↔ TakesAt g (length old.places.items) p b
  pub goes : (p q : ℕ) (place : ChartPlace) → length old.places.items ≤ p → slice_get new.places.items p ≡ Some place →
      IsIn new.entries.items place.behind q ↔ Goes g (length old.places.items) (IsIn old.entries.items behind) p q
  pub there : (p : ℕ) (place : ChartPlace) → length old.places.items ≤ p → slice_get new.places.items p ≡ Some place →
      (place.behind < length new.entries.items) × IsKnown new place.takes

-- a rule is in the chart, its end at this place and its places after it
pub record HasRule (chart : Chart) (rule : RuleValue) (drawn : ChartRule) : Type 0 where
  pub kind : drawn.kind ≡ rule.kind
  pub perms : drawn.perms ≡ held rule.perms
  pub fits : drawn.end + places (pattern rule) < length chart.places.items
  pub starts : (q : ℕ) → IsIn chart.entries.items drawn.start q ↔ Starts (pattern rule) (drawn.end + 1) (λ r. r ≡ drawn.end) q
  pub start_there : drawn.start < length chart.entries.items
  pub taken : (p b : ℕ) (place : ChartPlace) → drawn.end ≤ p → p ≤ drawn.end + places (pattern rule) → slice_get chart.places.items p
      ≡ Some place → b < 256 →
      IsTrue (takes_byte chart.classes.items place.takes b) ↔ TakesAt (pattern rule) (drawn.end + 1) p b
  pub goes : (p q : ℕ) (place : ChartPlace) → drawn.end < p → p ≤ drawn.end + places (pattern rule) →
      slice_get chart.places.items p ≡ Some place →
      IsIn chart.entries.items place.behind q ↔ Goes (pattern rule) (drawn.end + 1) (λ r. r ≡ drawn.end) p q

-- each rule comes after the one before it, and nothing else is in the chart
abbrev pub HasRules : Chart → ℕ → List RuleValue → List ChartRule → Type 0
HasRules chart at [] [] = length chart.places.items ≡ at
HasRules chart at [] (d ∷ ds) = ⊥
HasRules chart at (rule ∷ rules) [] = ⊥
HasRules chart at (rule ∷ rules) (d ∷ ds) = (d.end ≡ at) × HasRule chart rule d × HasRules chart (at + places (pattern rule) + 1) rules ds

-- the chart of these rules: what it refers to is there
pub record IsChartOf (rules : List RuleValue) (chart : Chart) : Type 0 where
  pub ordered : IsOrdered chart.entries.items
  pub there : (p : ℕ) (place : ChartPlace) → slice_get chart.places.items p ≡ Some place → (place.behind < length chart.entries.items)
      × IsKnown chart place.takes
  pub drawn : HasRules chart 0 rules chart.rules.items

-- some rules are drawn, whichever
abbrev pub IsPartOfChart : Chart → Type 0
IsPartOfChart chart = (rules : List RuleValue) × IsChartOf rules chart

-- one more rule is drawn, whichever were before
abbrev pub HasOneMore : Chart → Chart → RuleValue → Type 0
HasOneMore old new rule = (rules : List RuleValue) → IsChartOf rules old → IsChartOf (rules ++ rule ∷ []) new

-- two charts with the same lists
pub record AreSame (one other : Chart) : Type 0 where
  pub places : one.places.items ≡ other.places.items
  pub entries : one.entries.items ≡ other.entries.items
  pub classes : one.classes.items ≡ other.classes.items
  pub rules : one.rules.items ≡ other.rules.items
