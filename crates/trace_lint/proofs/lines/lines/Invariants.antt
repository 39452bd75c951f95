-- The lines of the parts before the index.
use Rattle.std.proofs.Common.{◌≡◌, map, take}
use Rattle.std.specs.List.{flat_map}
use Rattle.rule_profile.specs.Profile.{profile_value}
use Rattle.rule_profile.specs.RuleSpans.{profile_spans}
use Rattle.trace_lint.specs.LintOutput.{finding_in}
use Rattle.trace_lint.specs.inner.Found.{all_found}
use Rattle.trace_lint.proofs.lines.lines.Given as goal

abbrev pub invariant-loop-index : goal.invariant-loop-index
invariant-loop-index l =
    l.lines.items ≡ flat_map (finding_in l.format l.linted.text.now (profile_value l.linted.profile.now).rules
    (profile_spans l.linted.profile.now)) (all_found (profile_value l.linted.profile.now).rules l.decided
    (take l.index l.parts) (take l.index (map (λ list. list.items) l.lists)))
