use Rattle.apparmor_rules.proofs.RestatedVerdicts.{allowed_by_narrower, denied_by_narrower, granted_by_narrower}
use Rattle.apparmor_rules.proofs.subject_laws.narrower_rules_allow_no_more.Goals as goal

pub returns-clause-denied : goal.returns-clause-denied
returns-clause-denied c = denied_by_narrower

pub returns-clause-granted : goal.returns-clause-granted
returns-clause-granted c = granted_by_narrower

pub returns-clause-allowed : goal.returns-clause-allowed
returns-clause-allowed c unknown mode chosen subject rules name ask =
    allowed_by_narrower unknown chosen subject rules name mode ask c.allowed_alone.ensures
