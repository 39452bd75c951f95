-- What a published profile says about names.
use Rattle.std.specs.Prelude.{ℕ, List, unwrap_or}
use Rattle.names.specs.Hits.{no_hits}
use Rattle.names.specs.declared.permissions.Perms.{Perms}
use Rattle.rule_globs.specs.PlainVerdict.{verdict}
use Rattle.rule_profile.specs.Profile.{RuleValue}
use Rattle.names.specs.declared.verdict.Verdict.{Verdict}
use Rattle.tables.specs.Tables.{Table, record_after}
use Rattle.mediation.specs.Told.{told}

-- a compiled profile judges by its rules, one that was loaded from an image by its table
pub data Judge : Type 0 where
  by_rules : List RuleValue → Judge
  by_table : Table → Judge

-- The verdict on a name and the asked permissions. By a table it is the verdict of the record that the name leads to. (A table in
-- bounds has a record for each name; if there is none, nothing is hit.)
abbrev pub verdict_by : Judge → List ℕ → Perms → Verdict
verdict_by (by_rules rules) name ask = verdict rules name ask
verdict_by (by_table t) name ask = told (unwrap_or (record_after t name) no_hits) ask
