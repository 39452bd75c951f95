-- The values of rules and profiles.
use Rattle.std.specs.Prelude.{ℕ, Bool, List}
use Rattle.names.specs.declared.permissions.Permission.{Permission}
use Rattle.names.specs.declared.permissions.Perms.{Perms}
use Rattle.names.specs.Permissions.{has, held}
use Rattle.rule_globs.specs.Glob.{Glob}
use Rattle.rule_globs.specs.Tokens.{Token, pattern_of}
use Rattle.names.specs.declared.kind.RuleKind.{RuleKind}

pub record RuleValue : Type 0 where
  pub kind : RuleKind
  pub perms : Perms
  -- the path
  pub items : List Token

-- the pattern that names are matched with
abbrev pub pattern : RuleValue → Glob
pattern rule = pattern_of rule.items

-- the rule holds the permission: it is among its letters, or it is append and write is among them
abbrev pub holds : RuleValue → Permission → Bool
holds rule p = has (held rule.perms) p

pub record ProfileValue : Type 0 where
  pub name : List ℕ
  -- numbered from 1 in their order
  pub rules : List RuleValue
