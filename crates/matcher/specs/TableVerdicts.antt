-- Tables of rules, and what they say.
use Rattle.std.specs.Prelude.{◌≡◌, List, Some, ℕ}
use Rattle.names.specs.Hits.{no_hits}
use Rattle.glob_automaton.specs.Least.{IsLeastRecord}
use Rattle.names.specs.Records.{IsTold}
use Rattle.names.specs.Bytes.{are_bytes}
use Rattle.names.specs.declared.record.Record.{Record}
use Rattle.names.specs.declared.permissions.Perms.{Perms}
use Rattle.rule_globs.specs.PlainVerdict.{verdict}
use Rattle.rule_profile.specs.Profile.{RuleValue}
use Rattle.names.specs.declared.verdict.Verdict.{Verdict}
use Rattle.tables.specs.Tables.{StaysDead, Table, record_after, record_of}

-- state 0 is left by no byte, and has no hits
abbrev pub IsDeadAtZero : Table → Type 0
IsDeadAtZero t = StaysDead t × (record_of t 0 ≡ Some no_hits)

-- Every list of bytes leads to the record of its least hits. (Each list has exactly one such record.)
abbrev pub TellsLeastHits : List RuleValue → Table → Type 0
TellsLeastHits rules t = (bytes : List ℕ) (r : Record) → are_bytes bytes → IsLeastRecord rules bytes r →
    record_after t bytes ≡ Some r

-- a table of these rules, however its states are numbered and wherever its cells are
pub record IsTableOfRules (rules : List RuleValue) (t : Table) : Type 0 where
  pub dead : IsDeadAtZero t
  pub least : TellsLeastHits rules t

-- what the record of a list of bytes says is the verdict of the rules
abbrev pub TellsVerdicts : List RuleValue → Table → Type 0
TellsVerdicts rules t = (bytes : List ℕ) (r : Record) (ask : Perms) (v : Verdict) → are_bytes bytes →
    record_after t bytes ≡ Some r → IsTold r ask v → v ≡ verdict rules bytes ask
