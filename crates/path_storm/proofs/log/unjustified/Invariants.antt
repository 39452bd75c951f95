use Rattle.std.proofs.Common.{◌≤◌, map, take}
use Rattle.mediation.specs.PolicyChanges.{deed_of}
use Rattle.justification.specs.Justified.{Justified}
use Rattle.path_storm.specs.Counts.{IsCountOfOthers}
use Rattle.path_storm.specs.declared.setup.TheConstants.{PROFILE}
use Rattle.path_storm.proofs.log.unjustified.Given as goal

-- the count of the answers so far that are not justified
abbrev pub invariant-loop-answer : goal.invariant-loop-answer
invariant-loop-answer l = record {
  few : l.count ≤ l.answer-index;
  counted : IsCountOfOthers (Justified PROFILE.now l.trail.path l.trail.ask l.trail.changes (map deed_of l.policy))
      (take l.answer-index l.answers) l.count;
}
