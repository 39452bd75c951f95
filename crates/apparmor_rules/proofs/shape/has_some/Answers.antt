use Rattle.apparmor_rules.specs.laws.RestatedPerms.{not_empty}
use Rattle.apparmor_rules.proofs.shape.has_some.Goals as goal

pub returns : goal.returns
returns c = not_empty c.args.perms c.is_empty.result c.is_empty.ensures.0 c.is_empty.ensures.1
