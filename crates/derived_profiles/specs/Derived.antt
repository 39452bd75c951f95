-- Profiles that have the name of another and other rules.
use Rattle.std.specs.Prelude.{List, [], ◌∷◌, Bool, true, false, codes, filter, reverse}
use Rattle.names.specs.declared.kind.RuleKind.TheVariants.{Allow, Deny}
use Rattle.rule_globs.specs.Rules.{RuleValue, ProfileValue}

-- the profile with these rules in place of its own
abbrev pub with_rules : ProfileValue → List RuleValue → ProfileValue
with_rules profile rules = record { name = profile.name; rules = rules }

-- its rules, the last one first
abbrev pub reversed : ProfileValue → ProfileValue
reversed profile = with_rules profile (reverse profile.rules)

-- the rule is an allow rule
abbrev pub is_allow : RuleValue → Bool
is_allow rule = elim rule.kind [ Allow ↦ true | Deny ↦ false ]

-- its allow rules, in their order
abbrev pub allow_rules : ProfileValue → ProfileValue
allow_rules profile = with_rules profile (filter is_allow profile.rules)

-- the same permissions and path, in an allow rule
abbrev pub allowing : RuleValue → RuleValue
allowing rule = record { kind = Allow; perms = rule.perms; items = rule.items }

-- one of its rules alone, as an allow rule
abbrev pub alone : ProfileValue → RuleValue → ProfileValue
alone profile rule = with_rules profile (allowing rule ∷ [])

-- the profile without rules
abbrev pub without_rules : ProfileValue
without_rules = record { name = codes "empty"; rules = [] }
