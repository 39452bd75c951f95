use Rattle.std.proofs.Common.{ap, None}
use Rattle.rule_profile.specs.Profile.{profile_value}
use Rattle.rule_explain.specs.declared.reason.Reason.TheVariants.{Allowed, Denied, NoRule}
use Rattle.rule_explain.specs.Reasons.{reason_by}
use Rattle.rule_explain.proofs.ReasonLaws.{denied, not_denied, right_so}
use Rattle.rule_explain.proofs.reason.reason_of.Goals as goal

pub returns-in-Some-clause-plain : goal.returns-in-Some-clause-plain
returns-in-Some-clause-plain c = denied (profile_value c.args.profile.now).rules c.args.name.now c.args.permission
    c.in-Some.rule c.in-Some.ensures

pub returns-in-Some-clause-reason : goal.returns-in-Some-clause-reason
returns-in-Some-clause-reason c = right_so (profile_value c.args.profile.now).rules c.args.name.now c.args.permission
    (Denied c.in-Some.rule) (returns-in-Some-clause-plain c)

pub returns-in-Some-first_hit-clause-plain : goal.returns-in-Some-first_hit-clause-plain
returns-in-Some-first_hit-clause-plain c =
    not_denied (profile_value c.args.profile.now).rules c.args.name.now c.args.permission (Allowed c.in-Some-first_hit.rule)
    c.in-None.ensures (ap (reason_by None) c.in-Some-first_hit.ensures)

pub returns-in-Some-first_hit-clause-reason : goal.returns-in-Some-first_hit-clause-reason
returns-in-Some-first_hit-clause-reason c = right_so (profile_value c.args.profile.now).rules c.args.name.now c.args.permission
    (Allowed c.in-Some-first_hit.rule) (returns-in-Some-first_hit-clause-plain c)

pub returns-in-None-first_hit-clause-plain : goal.returns-in-None-first_hit-clause-plain
returns-in-None-first_hit-clause-plain c =
    not_denied (profile_value c.args.profile.now).rules c.args.name.now c.args.permission NoRule c.in-None.ensures
    (ap (reason_by None) c.in-None-first_hit.ensures)

pub returns-in-None-first_hit-clause-reason : goal.returns-in-None-first_hit-clause-reason
returns-in-None-first_hit-clause-reason c = right_so (profile_value c.args.profile.now).rules c.args.name.now c.args.permission NoRule
    (returns-in-None-first_hit-clause-plain c)
