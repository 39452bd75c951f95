use Rattle.apparmor_rules.proofs.RealChanges.{gained_is_real, lost_is_real}
use Rattle.apparmor_rules.proofs.subject_laws.changes_have_causes.Goals as goal

pub returns-clause-lost : goal.returns-clause-lost
returns-clause-lost c = lost_is_real

pub returns-clause-gained : goal.returns-clause-gained
returns-clause-gained c = gained_is_real
