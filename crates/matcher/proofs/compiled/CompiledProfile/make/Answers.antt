use Rattle.std.proofs.Common.{sym, subst}
use Rattle.matcher.proofs.FaultlessTables.{no_first_fault}
use Rattle.matcher.specs.TableVerdicts.{IsTableOfRules}
use Rattle.rule_profile.specs.Profile.{profile_value}
use Rattle.matcher.proofs.compiled.CompiledProfile.make.Goals as goal

pub invariant_of-result : goal.invariant_of-result
invariant_of-result c =
    let rules = (profile_value c.args.profile).rules in
    let kept = subst (IsTableOfRules rules) (sym c.in-Ok.ensures.ok.0) c.in_ok-table.ensures.rules in
    record { dead = kept.dead; least = kept.least }

-- a table of rules is in bounds, so that it isn't refused
pub unreachable-requires : goal.unreachable-requires
unreachable-requires c = no_first_fault _ c.in-Err.field-0.0 c.in_ok-table.ensures.bounds c.in-Err.ensures.err.1
