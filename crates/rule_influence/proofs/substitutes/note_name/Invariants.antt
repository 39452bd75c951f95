-- The lists of the cases before the index are done, and the others are as they were.
use Rattle.rule_profile.specs.Profile.{profile_value}
use Rattle.rule_influence.proofs.CaseLists.{AreNotedBefore}
use Rattle.rule_influence.proofs.substitutes.note_name.Given as goal

abbrev pub invariant-loop-index : goal.invariant-loop-index
invariant-loop-index l = record {
  noted : AreNotedBefore (profile_value l.profile).rules l.cases l.records l.name l.initial.lists l.index l.lists;
}
