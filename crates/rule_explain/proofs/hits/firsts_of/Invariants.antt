-- Of each permission that is asked, the first rules among those so far.
use Rattle.std.proofs.Common.{IsTrue, map}
use Rattle.names.specs.declared.permissions.Permission.{Permission}
use Rattle.names.specs.Permissions.{has}
use Rattle.rule_profile.specs.Profile.{rule_value}
use Rattle.rule_explain.specs.inner.Firsts.{hits_of}
use Rattle.rule_explain.proofs.SoFar.{AreSoFar}
use Rattle.rule_explain.proofs.hits.firsts_of.Given as goal

abbrev pub invariant-loop-i : goal.invariant-loop-i
invariant-loop-i l =
    (p : Permission) → IsTrue (has l.ask p) → AreSoFar (map rule_value l.rule-items) l.name p l.i (hits_of l.firsts p)
