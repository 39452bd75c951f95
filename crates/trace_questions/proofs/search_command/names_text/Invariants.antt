-- The lines of the names so far.
use Rattle.std.proofs.Common.{◌≡◌}
use Rattle.rule_profile.specs.Profile.{profile_value}
use Rattle.rule_profile.specs.RuleSpans.{profile_spans}
use Rattle.trace_questions.specs.Search.{name_text}
use Rattle.trace_questions.proofs.ListedLines.{first_lines}
use Rattle.trace_questions.proofs.search_command.names_text.Given as goal

abbrev pub invariant-loop-name : goal.invariant-loop-name
invariant-loop-name l =
    l.lines.items ≡ first_lines (name_text l.format l.quantifier l.text (profile_value l.profile).rules (profile_spans l.profile) l.ask)
    l.names l.name-index
