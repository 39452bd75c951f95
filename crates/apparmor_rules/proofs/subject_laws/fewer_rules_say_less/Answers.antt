use Rattle.apparmor_rules.proofs.SomeHits.{fewer_allow, fewer_deny, no_other_hits}
use Rattle.apparmor_rules.proofs.subject_laws.fewer_rules_say_less.Goals as goal

pub returns-clause-hits : goal.returns-clause-hits
returns-clause-hits c left_out kind rules left name p leaves = no_other_hits left_out rules left leaves p name kind

pub returns-clause-allow : goal.returns-clause-allow
returns-clause-allow c = fewer_allow

pub returns-clause-deny : goal.returns-clause-deny
returns-clause-deny c = fewer_deny
