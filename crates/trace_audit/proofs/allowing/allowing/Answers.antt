use Rattle.std.proofs.Common.{[]}
use Rattle.names.specs.Permissions.{all_permissions}
use Rattle.names.specs.declared.permissions.Permission.TheVariants.{Read}
use Rattle.rule_profile.specs.Profile.{profile_value}
use Rattle.trace_audit.specs.Answers.{allowing}
use Rattle.trace_audit.proofs.AllowedMore.{allowed_first, allowed_more}
use Rattle.trace_audit.proofs.allowing.allowing.Goals as goal

pub loop-permission-init : goal.loop-permission-init
loop-permission-init c =
    allowed_first (profile_value c.args.profile.now).rules c.args.name.now c.args.ask c.new-numbers.result.items all_permissions []
    c.new-numbers.ensures.items

pub loop-permission-preserved : goal.loop-permission-preserved
loop-permission-preserved c =
    allowed_more (profile_value c.args.profile.now).rules c.args.name.now c.args.ask c.loop-permission.numbers.items
    c.put_permission.new.numbers.items all_permissions c.loop-permission.permission-index Read
    (allowing (profile_value c.args.profile.now).rules c.args.name.now c.args.ask) c.loop-permission-test.true
    c.in_ok-put_permission.ensures c.loop-permission.invariant
