-- The lines so far, and those of the permissions that are left, are all.
use Rattle.std.proofs.Common.{◌≡◌, ◌++◌, drop}
use Rattle.std.specs.List.{flat_map}
use Rattle.names.specs.Permissions.{all_permissions}
use Rattle.rule_profile.specs.Profile.{profile_value}
use Rattle.rule_profile.specs.RuleSpans.{profile_spans}
use Rattle.import_origins.specs.Origins.{explained, reason_line}
use Rattle.import_origins.proofs.explanation.explained.Given as goal

abbrev pub invariant-loop-permission : goal.invariant-loop-permission
invariant-loop-permission l =
    l.lines.items ++ flat_map (reason_line l.text (profile_value l.profile).rules (profile_spans l.profile) l.name l.ask)
    (drop l.permission-index all_permissions)
    ≡ explained l.text (profile_value l.profile).rules (profile_spans l.profile) l.name l.ask
