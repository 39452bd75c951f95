use Rattle.std.proofs.Common.{map}
use Rattle.std.specs.List.{flat_map}
use Rattle.names.specs.declared.permissions.Permission.TheVariants.{Read}
use Rattle.names.specs.Permissions.{all_permissions}
use Rattle.rule_profile.specs.Profile.{profile_value}
use Rattle.rule_profile.specs.RuleSpans.{profile_spans}
use Rattle.serde_json.specs.View.{view}
use Rattle.import_origins.specs.OriginObjects.{reason_objects}
use Rattle.import_origins.proofs.PartLaws.{part_added}
use Rattle.import_origins.proofs.objects.reasons_array.Goals as goal

pub loop-permission-preserved : goal.loop-permission-preserved
loop-permission-preserved c =
    let rules = (profile_value c.args.profile.now).rules in
    let spans = profile_spans c.args.profile.now in
    part_added (reason_objects c.args.text.now rules spans c.args.name.now c.args.ask) all_permissions c.loop-permission.permission-index
    Read (map view c.loop-permission.reasons.items) (map view c.push_reason.new.reasons.items)
    (flat_map (reason_objects c.args.text.now rules spans c.args.name.now c.args.ask) all_permissions)
    c.loop-permission-test.true c.in_ok-push_reason.ensures c.loop-permission.invariant
