use Rattle.std.proofs.Common.{ap, sym}
use Rattle.rule_judge.specs.Links.{is_allowed}
use Rattle.mediation.proofs.RecordVerdicts.{not_allowed}
use Rattle.mediation.proofs.profiles.tells_allowed.Goals as goal

pub returns-in-Allowed : goal.returns-in-Allowed
returns-in-Allowed c = (c.told.result, rw (← c.with.ensures) c.told.ensures, sym (ap is_allowed c.in-Allowed.is))

pub returns-in_default : goal.returns-in_default
returns-in_default c = (c.told.result, rw (← c.with.ensures) c.told.ensures, not_allowed c.told.result c.in_default.not-Allowed)
