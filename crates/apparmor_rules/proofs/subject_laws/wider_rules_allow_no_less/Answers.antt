use Rattle.apparmor_rules.proofs.RestatedVerdicts.{allowed_by_wider, denied_by_wider, granted_by_wider}
use Rattle.apparmor_rules.proofs.subject_laws.wider_rules_allow_no_less.Goals as goal

pub returns-clause-denied : goal.returns-clause-denied
returns-clause-denied c = denied_by_wider

pub returns-clause-granted : goal.returns-clause-granted
returns-clause-granted c = granted_by_wider

pub returns-clause-allowed : goal.returns-clause-allowed
returns-clause-allowed c unknown mode chosen subject rules name ask = allowed_by_wider unknown chosen subject rules name mode ask
