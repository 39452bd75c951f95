-- What is added so far: the lines of the permissions that are asked, among those that the loop has passed.
use Rattle.std.proofs.Common.{◌≡◌, take, filter}
use Rattle.std.specs.List.{flat_map}
use Rattle.names.specs.Permissions.{all_permissions, has}
use Rattle.rule_profile.specs.Profile.{profile_value}
use Rattle.rule_profile.specs.RuleSpans.{profile_spans}
use Rattle.rule_explain.specs.Explanations.{reason_line}
use Rattle.rule_explain.proofs.explanation.reason_lines.Given as goal

abbrev pub invariant-loop-permission : goal.invariant-loop-permission
invariant-loop-permission l =
    l.lines.items ≡ flat_map (reason_line l.text (profile_value l.profile).rules (profile_spans l.profile) l.name)
    (filter (has l.ask) (take l.permission-index all_permissions))
