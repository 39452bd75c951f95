use Rattle.apparmor_rules.proofs.ChangeParts.{told_in_parts}
use Rattle.apparmor_rules.proofs.subject_laws.changes_are_told_in_parts.Goals as goal

pub returns : goal.returns
returns c = told_in_parts
