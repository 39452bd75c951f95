-- The values of AppArmor's file rules, and what isn't known of them.
use Rattle.std.specs.Prelude.{ℕ, Bool, false, List, Option}
use Rattle.names.specs.declared.permissions.Perms.{Perms}
use Rattle.rule_globs.specs.Tokens.{Token}
use Rattle.apparmor_rules.specs.declared.subject.AppliesTo.{AppliesTo}
use Rattle.names.specs.declared.kind.RuleKind.{RuleKind}

-- A path as AppArmor reads it: as some paths, any of which may match the name; or a text that it reads in its own way.
pub data SubjectPath : Type 0 where
  read : List (List Token) → SubjectPath
  unread : List ℕ → SubjectPath

-- A priority is a whole number: how far from 0 it is, and whether below (apparmor.d(5) of AppArmor 4.1, "Rule Qualifiers").
pub record Priority : Type 0 where
  pub below : Bool
  pub size : ℕ

-- 0, that of a rule that says none
abbrev pub no_priority : Priority
no_priority = record { below = false; size = 0 }

pub record SubjectRule : Type 0 where
  pub kind : RuleKind
  pub applies_to : AppliesTo
  -- its letters but those of execute modes; a mode with `i` counts as m
  pub perms : Perms
  -- the text after `->`, where that binds link (apparmor.d(5), "Link rules")
  pub target : Option (List ℕ)
  pub path : SubjectPath
  pub priority : Priority

-- What isn't known here: how AppArmor itself reads texts. What is said below is said of every way.
pub record Unknown : Type 0 where
  -- the text of an unread path matches the name
  pub takes : List ℕ → List ℕ → Bool
  -- the text of a target takes what the link would lead to
  pub meets : List ℕ → Bool
