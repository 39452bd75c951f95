-- The automaton of one path, and that of a rule with this path and a number.
use Rattle.std.specs.Prelude.{◌≡◌, ◌==◌, ℕ, ◌<◌, List, length, Some, slice_get, if◌then◌else◌}
use Rattle.names.specs.declared.permissions.Permission.TheVariants.{Read}
use Rattle.names.specs.Permissions.{held, only}
use Rattle.rule_profile.specs.Profile.{RuleValue}
use Rattle.names.specs.declared.kind.RuleKind.TheVariants.{Allow}
use Rattle.names.specs.declared.record.Record.{Record}
use Rattle.names.specs.Hits.{no_hits, record_with}
use Rattle.names.specs.Least.{hits_of}
use Rattle.automaton_rows.specs.Automata.{Automaton, IsWhole, target}
use Rattle.glob_automaton.specs.declared.leaf.Leaves.{Leaves}
use Rattle.glob_automaton.specs.declared.leaf.PathAutomaton.{PathAutomaton}
use Rattle.glob_automaton.specs.inner.ChartStates.{IsBuilt}

-- the rule that allows reading what the rule's path matches
abbrev pub reading : RuleValue → RuleValue
reading rule = record { kind = Allow; perms = only Read; items = rule.items }

-- what the rule with this number hits, where its path matches
abbrev pub hits_alone : RuleValue → ℕ → Record
hits_alone rule number = record_with no_hits rule.kind (held rule.perms) number

-- these hits where reading is allowed
abbrev pub where_read : Record → Record → Record
where_read hits r = if (hits_of r Read).allow == 0 then no_hits else hits

-- the same states, with these hits where reading is allowed
pub record IsWithHits (hits : Record) (a b : Automaton) : Type 0 where
  pub whole : IsWhole b
  pub each_row : length b.rows ≡ length a.rows
  pub start : b.start ≡ a.start
  pub targets : (s c : ℕ) → s < length a.rows → c < 256 → target b s c ≡ target a s c
  pub records : (s : ℕ) (r : Record) → slice_get a.records s ≡ Some r → slice_get b.records s ≡ Some (where_read hits r)

-- the records of the first states
abbrev pub AreWithHits : Record → Automaton → List Record → ℕ → Type 0
AreWithHits hits a records state = (length records ≡ state)
    × ((s : ℕ) (r : Record) → s < state → slice_get a.records s ≡ Some r → slice_get records s ≡ Some (where_read hits r))

-- each path's automaton is built from its chart
abbrev pub AreBuilt : Leaves → Type 0
AreBuilt leaves = (i : ℕ) (path : PathAutomaton) → slice_get leaves.built.items i ≡ Some path → IsBuilt path.chart path.dfa
