-- None of the rules so far hits.
use Rattle.std.proofs.Common.{map}
use Rattle.rule_profile.specs.Profile.{rule_value}
use Rattle.rule_explain.specs.Reasons.{hits}
use Rattle.rule_explain.proofs.FirstHits.{NoneBefore}
use Rattle.rule_explain.proofs.reason.first_hit.Given as goal

abbrev pub invariant-loop-i : goal.invariant-loop-i
invariant-loop-i l = NoneBefore (hits l.kind l.permission l.name) (map rule_value l.rule-items) l.i
