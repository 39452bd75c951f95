use Rattle.apparmor_rules.proofs.RestatedVerdicts.{allowed_by_exact, denied_by_exact, granted_by_exact}
use Rattle.apparmor_rules.proofs.subject_laws.exact_rules_say_the_same.Goals as goal

pub returns-clause-denied : goal.returns-clause-denied
returns-clause-denied c = denied_by_exact

pub returns-clause-granted : goal.returns-clause-granted
returns-clause-granted c = granted_by_exact

pub returns-clause-allowed : goal.returns-clause-allowed
returns-clause-allowed c unknown mode chosen subject rules name ask =
    allowed_by_exact unknown chosen subject rules name mode ask c.allowed_alone.ensures
