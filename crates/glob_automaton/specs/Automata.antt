-- The automaton of a profile's rules.
use Rattle.std.specs.Prelude.{◌≡◌, ◌↔◌, ℕ, Bool, IsTrue, List, length, Some, slice_get}
use Rattle.names.specs.Bytes.{are_bytes}
use Rattle.rule_profile.specs.Profile.{RuleValue}
use Rattle.names.specs.declared.record.Record.{Record}
use Rattle.automaton_rows.specs.declared.fault.CompileFault.{CompileFault}
use Rattle.automaton_rows.specs.declared.fault.CompileFault.TheVariants.{TooManyStates, NoMemory}
pub use Rattle.automaton_rows.specs.Automata.{Automaton, IsWhole, target, goes_to, state_after, most_sets}
use Rattle.names.specs.Hits.{no_hits}
use Rattle.glob_automaton.specs.Least.{IsLeastRecord}
use Rattle.glob_automaton.specs.Sets.{SameSet, NoneLive, IsCount, AreMoreThan}

-- The automaton of these rules. It has one state for each set of live places that a prefix of a name has, and state 0 for the
-- empty set, whether or not a prefix has it. For every list of bytes it leads to the least hits.
pub record IsAutomatonOf (rules : List RuleValue) (a : Automaton) : Type 0 where
  pub whole : IsWhole a
  pub least : (bytes : List ℕ) → are_bytes bytes → (r : Record) × (slice_get a.records (state_after a bytes) ≡ Some r)
      × IsLeastRecord rules bytes r
  pub one_each : (x y : List ℕ) → are_bytes x → are_bytes y → (state_after a x ≡ state_after a y) ↔ SameSet rules x y
  pub dead : (bytes : List ℕ) → are_bytes bytes → (state_after a bytes ≡ 0) ↔ NoneLive rules bytes
  pub hits_nothing : slice_get a.records 0 ≡ Some no_hits
  pub count : IsCount rules (length a.rows)

-- why there is none
abbrev pub IsCompileFault : List RuleValue → CompileFault → Type 0
IsCompileFault rules TooManyStates = AreMoreThan most_sets rules
IsCompileFault rules NoMemory = Unit {0}

-- A test of rules that is true exactly where their prefixes of names have too many sets. (There is one, and any other agrees
-- with it.)
pub record StateLimit : Type 0 where
  pub is_over : List RuleValue → Bool
  pub right : (rules : List RuleValue) → IsTrue (is_over rules) ↔ AreMoreThan most_sets rules
