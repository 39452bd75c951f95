-- A rule by itself: whether it says something of what is asked for a name.
use Rattle.std.specs.Prelude.{ℕ, List, IsTrue}
use Rattle.names.specs.declared.permissions.Permission.{Permission}
use Rattle.names.specs.declared.permissions.Perms.{Perms}
use Rattle.names.specs.Permissions.{has}
use Rattle.rule_globs.specs.Glob.{Takes}
use Rattle.rule_globs.specs.Rules.{RuleValue, pattern, holds}

-- the rule matches the name and holds something that is asked
abbrev pub HitsSome : RuleValue → List ℕ → Perms → Type 0
HitsSome rule name ask = ((p : Permission) × IsTrue (has ask p) × IsTrue (holds rule p)) × Takes (pattern rule) name
