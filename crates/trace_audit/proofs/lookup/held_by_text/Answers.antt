use Rattle.rule_profile.specs.Profile.{profile_value}
use Rattle.trace_audit.specs.inner.FoundValues.{held_value}
use Rattle.trace_audit.proofs.FoundLaws.{held_if_read}
use Rattle.trace_audit.proofs.lookup.held_by_text.Goals as goal

pub returns-in-Ok : goal.returns-in-Ok
returns-in-Ok c =
    held_if_read c.args.text.now c.args.name.now c.args.by_owner (held_value c.held_by_profile.result) (profile_value c.in-Ok.profile)
    c.in-Ok.ensures.outcome c.held_by_profile.ensures

pub returns-in-Err : goal.returns-in-Err
returns-in-Err c = c.unread.ensures c.in-Err.ensures.outcome
