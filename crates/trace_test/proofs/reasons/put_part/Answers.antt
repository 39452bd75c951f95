use Rattle.rule_profile.specs.Profile.{profile_value}
use Rattle.trace_test.proofs.ReasonParts.{names_rule}
use Rattle.trace_test.proofs.reasons.put_part.Goals as goal

pub put_reason-requires : goal.put_reason-requires
put_reason-requires c = names_rule (profile_value c.args.profile.now).rules c.args.name.now c.args.permission
    c.reason_of-reason.result c.reason_of-reason.ensures.reason
