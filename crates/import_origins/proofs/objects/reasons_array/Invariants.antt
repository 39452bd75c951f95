-- The reasons so far, and those of the permissions that are left, are all.
use Rattle.std.proofs.Common.{◌≡◌, ◌++◌, drop, map}
use Rattle.std.specs.List.{flat_map}
use Rattle.names.specs.Permissions.{all_permissions}
use Rattle.rule_profile.specs.Profile.{profile_value}
use Rattle.rule_profile.specs.RuleSpans.{profile_spans}
use Rattle.serde_json.specs.View.{view}
use Rattle.import_origins.specs.OriginObjects.{reason_objects}
use Rattle.import_origins.proofs.objects.reasons_array.Given as goal

abbrev pub invariant-loop-permission : goal.invariant-loop-permission
invariant-loop-permission l =
    map view l.reasons.items ++ flat_map (reason_objects l.text (profile_value l.profile).rules (profile_spans l.profile) l.name l.ask)
    (drop l.permission-index all_permissions)
    ≡ flat_map (reason_objects l.text (profile_value l.profile).rules (profile_spans l.profile) l.name l.ask) all_permissions
