-- The profile that allows to read what a pattern matches.
use Rattle.std.specs.Prelude.{ℕ, List, [], ◌∷◌, Option, Some, None, codes, option_and_then, option_map, if◌then◌else◌}
use Rattle.names.specs.declared.kind.RuleKind.TheVariants.{Allow}
use Rattle.names.specs.declared.permissions.Permission.TheVariants.{Read}
use Rattle.names.specs.Permissions.{only}
use Rattle.rule_globs.specs.Rules.{RuleValue, ProfileValue}
use Rattle.rule_globs.specs.Tokens.{Token}
use Rattle.rule_profile.specs.Readable.{is_path}
use Rattle.rule_reader.specs.PathText.{text_tokens}

-- the path that the whole text is within quotes; it begins with a slash
abbrev pub pattern_path : List ℕ → Option (List Token)
pattern_path text = option_and_then (λ path. if is_path path then Some path else None) (text_tokens text)

-- to read what the path matches is allowed
abbrev pub read_rule : List Token → RuleValue
read_rule path = record { kind = Allow; perms = only Read; items = path }

abbrev pub profile_of_path : List Token → ProfileValue
profile_of_path path = record { name = codes "pattern"; rules = read_rule path ∷ [] }

abbrev pub of_pattern : List ℕ → Option ProfileValue
of_pattern text = option_map profile_of_path (pattern_path text)
