-- What the worked examples are made of.
use Rattle.std.specs.Prelude.{ℕ, false, List, map, unwrap_or}
use Rattle.names.specs.Permissions.{perms_of, set_of}
use Rattle.names.specs.declared.permissions.Perms.{Perms}
use Rattle.names.specs.declared.kind.RuleKind.TheVariants.{Allow}
use Rattle.rule_profile.specs.Profile.{RuleValue}
use Rattle.rule_globs.specs.Tokens.{byte}

abbrev nothing_at_all : Perms
nothing_at_all = set_of (λ p. false)

-- the rule that allows these letters to just this name
abbrev pub allow_rule : List ℕ → List ℕ → RuleValue
allow_rule name letters = record { kind = Allow; perms = unwrap_or (perms_of letters) nothing_at_all; items = map byte name }
