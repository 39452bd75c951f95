-- Where the rules of a profile are in the text that they were read from.
use Rattle.std.specs.Prelude.{List, map}
use Rattle.rule_profile.specs.declared.profile.Profile.{Profile}
use Rattle.rule_profile.specs.declared.profile.Rule.{Rule}
use Rattle.rule_profile.specs.declared.profile.Span.{Span}

-- where a rule that was read is
abbrev pub rule_span : Rule → Span
rule_span rule = rule.span

-- the same of a profile's rules, in their order
abbrev pub profile_spans : Profile → List Span
profile_spans profile = map rule_span profile.rules.items
