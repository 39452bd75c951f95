-- The answers of a storm, and how many of them a predicate doesn't hold of.
use Rattle.std.specs.Prelude.{◌≡◌, ◌+◌, ◌⊎◌, ℕ, List, [], ◌∷◌, flat_map, length, map}
use Rattle.mediation.specs.PolicyChanges.{deed_of}
use Rattle.justification.specs.Justified.{Justified}
use Rattle.justification.specs.declared.answer.Answer.{Answer}
use Rattle.path_storm.specs.declared.setup.TheConstants.{FILE, PROFILE}
use Rattle.path_storm.specs.declared.log.SessionLog.{SessionLog}
use Rattle.path_storm.specs.declared.log.StormLog.{StormLog}
use Rattle.path_storm.specs.declared.plan.StormReport.{StormReport}

-- the answers of all sessions
abbrev pub answers_of : List SessionLog → List Answer
answers_of all = flat_map (λ own. own.answers.items) all

-- the predicate doesn't hold of exactly `count` of these answers
abbrev pub IsCountOfOthers : (Answer → Type 0) → List Answer → ℕ → Type 0
IsCountOfOthers Holds [] count = count ≡ 0
IsCountOfOthers Holds (answer ∷ answers) count =
    (Holds answer × IsCountOfOthers Holds answers count)
    ⊎ (¬ (Holds answer) × (less : ℕ) × (count ≡ less + 1) × IsCountOfOthers Holds answers less)

-- the report counts the answers of a storm, and those of them that what was made doesn't justify
pub record IsReportOf (log : StormLog) (report : StormReport) : Type 0 where
  pub answers : report.answers ≡ length (answers_of log.sessions.items)
  pub unjustified : IsCountOfOthers (Justified PROFILE.now FILE.now log.ask log.tree.made.items (map deed_of log.policy.made.items))
      (answers_of log.sessions.items) report.unjustified
