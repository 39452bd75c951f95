-- No rule so far denies, and what is missing is what no rule so far allows.
use Rattle.std.proofs.Common.{◌↔◌, IsTrue}
use Rattle.names.specs.declared.permissions.Permission.{Permission}
use Rattle.names.specs.Permissions.{has}
use Rattle.rule_profile.specs.Profile.{profile_value}
use Rattle.rule_judge.proofs.VerdictSteps.{IsQuiet, IsMissingAfter}
use Rattle.rule_judge.proofs.judgment.judge_slow.Given as goal

abbrev pub invariant-loop-i : goal.invariant-loop-i
invariant-loop-i l = record {
  quiet : IsQuiet (profile_value l.profile).rules l.name l.ask l.i;
  left : (p : Permission) → IsTrue (has l.missing p) ↔ IsMissingAfter (profile_value l.profile).rules l.name l.ask l.i p;
}
