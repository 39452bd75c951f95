use Rattle.std.proofs.Common.{◌≡◌, length, map, take}
use Rattle.mediation.specs.PolicyChanges.{deed_of}
use Rattle.justification.specs.Justified.{Justified}
use Rattle.path_storm.specs.Counts.{answers_of, IsCountOfOthers}
use Rattle.path_storm.specs.declared.setup.TheConstants.{FILE, PROFILE}
use Rattle.path_storm.proofs.log.StormLog.report.Given as goal

-- the report is right for the sessions so far
abbrev pub invariant-loop-own : goal.invariant-loop-own
invariant-loop-own l = record {
  answers : l.report.answers ≡ length (answers_of (take l.own-index l.self.sessions.items));
  unjustified : IsCountOfOthers (Justified PROFILE.now FILE.now l.self.ask l.self.tree.made.items (map deed_of l.self.policy.made.items))
      (answers_of (take l.own-index l.self.sessions.items)) l.report.unjustified;
}
