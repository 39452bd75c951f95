use Rattle.names.specs.declared.permissions.Permission.TheVariants.{Read}
use Rattle.names.specs.Permissions.{all_permissions}
use Rattle.rule_profile.specs.Profile.{profile_value}
use Rattle.rule_profile.specs.RuleSpans.{profile_spans}
use Rattle.import_origins.specs.Origins.{explained, reason_line}
use Rattle.import_origins.proofs.PartLaws.{part_added}
use Rattle.import_origins.proofs.explanation.explained.Goals as goal

pub loop-permission-preserved : goal.loop-permission-preserved
loop-permission-preserved c =
    let rules = (profile_value c.args.profile.now).rules in
    let spans = profile_spans c.args.profile.now in
    part_added (reason_line c.args.text.now rules spans c.args.name.now c.args.ask) all_permissions c.loop-permission.permission-index Read
    c.loop-permission.lines.items c.put_line.new.lines.items (explained c.args.text.now rules spans c.args.name.now c.args.ask)
    c.loop-permission-test.true c.in_ok-put_line.ensures c.loop-permission.invariant
