-- The lists of the cases before the index have all candidates.
use Rattle.rule_profile.specs.Profile.{profile_value}
use Rattle.rule_influence.proofs.CaseLists.{NoneMissingBefore}
use Rattle.rule_influence.proofs.substitutes.some_missing.Given as goal

abbrev pub invariant-loop-index : goal.invariant-loop-index
invariant-loop-index l = record { there : NoneMissingBefore (profile_value l.profile).rules l.cases l.records l.lists l.index }
