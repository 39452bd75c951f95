-- The places of all rules, and how a match goes from one to the next.
use Rattle.std.specs.Prelude.{◌≡◌, ℕ, ◌<◌, Bool, false, List, [], Some, slice_get, slice_index_or}
use Rattle.rule_globs.specs.Glob.{fits, exactly, not_slash, every_byte}
use Rattle.glob_automaton.specs.declared.chart.Entry.{Entry}
use Rattle.glob_automaton.specs.declared.chart.Entry.TheVariants as entry
use Rattle.glob_automaton.specs.declared.chart.Label.{Label}
use Rattle.glob_automaton.specs.declared.chart.Label.TheVariants as label

-- the place q is live at the entry e
pub data IsIn : List Entry → ℕ → ℕ → Type 0 where
  at_place : (entries : List Entry) (e q : ℕ) → slice_get entries e ≡ Some (entry.Place q) → IsIn entries e q
  at_run : (entries : List Entry) (e q behind : ℕ) → slice_get entries e ≡ Some (entry.Run q behind) → IsIn entries e q
  past_run : (entries : List Entry) (e p behind q : ℕ) → slice_get entries e ≡ Some (entry.Run p behind) → IsIn entries behind q →
      IsIn entries e q
  one_side : (entries : List Entry) (e one other q : ℕ) → slice_get entries e ≡ Some (entry.Either one other) → IsIn entries one q →
      IsIn entries e q
  other_side : (entries : List Entry) (e one other q : ℕ) → slice_get entries e ≡ Some (entry.Either one other) → IsIn entries other q →
      IsIn entries e q

-- an entry refers only to entries before it
abbrev pub refers_below : ℕ → Entry → Type 0
refers_below e entry.Nothing = Unit {0}
refers_below e (entry.Place q) = Unit {0}
refers_below e (entry.Run p behind) = behind < e
refers_below e (entry.Either one other) = (one < e) × (other < e)

abbrev pub IsOrdered : List Entry → Type 0
IsOrdered entries = (e : ℕ) (x : Entry) → slice_get entries e ≡ Some x → refers_below e x

-- whether the byte is taken, by the table of what each class takes
abbrev pub takes_byte : List (List Bool) → Label → ℕ → Bool
takes_byte classes (label.Byte a) b = fits (exactly a) b
takes_byte classes label.InComponent b = fits not_slash b
takes_byte classes label.Any b = fits every_byte b
takes_byte classes (label.Class n) b = slice_index_or (slice_index_or classes n []) b false
takes_byte classes label.Nothing b = false
