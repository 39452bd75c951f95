-- The reasons so far: those of the permissions that are asked, among those that the loop has passed.
use Rattle.std.proofs.Common.{◌≡◌, map, take, filter}
use Rattle.names.specs.Permissions.{all_permissions, has}
use Rattle.rule_profile.specs.Profile.{profile_value}
use Rattle.rule_profile.specs.RuleSpans.{profile_spans}
use Rattle.serde_json.specs.View.{view}
use Rattle.answer_json.specs.Values.{reason_object}
use Rattle.answer_json.proofs.reasons.reasons_array.Given as goal

abbrev pub invariant-loop-permission : goal.invariant-loop-permission
invariant-loop-permission l =
    map view l.reasons.items ≡ map (reason_object l.text (profile_value l.profile).rules (profile_spans l.profile) l.name)
    (filter (has l.ask) (take l.permission-index all_permissions))
