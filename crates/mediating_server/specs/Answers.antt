-- The answers to opens, as text.
use Rattle.std.specs.Prelude.{◌≡◌, ℕ, List, [], codes}
use Rattle.names.specs.declared.permissions.Perms.{Perms}
use Rattle.mediation.specs.Opens.{judged, failed, no_profile}
use Rattle.justification.specs.declared.answer.Answer.{Answer}
use Rattle.justification.specs.declared.answer.Answer.TheVariants.{Judged, Failed, NoProfile, Busy, NoEntry}
use Rattle.justification.specs.Justified.{Justified}
use Rattle.path_session.specs.Sessions.{Sitting}
use Rattle.trace_report.specs.Output.{line}
use Rattle.trace_script.specs.AnswerText.{answered_text}

-- an answer, with the name that was judged; a guard is never busy
abbrev pub told_text : List ℕ → Answer → List ℕ
told_text name (Judged verdict node tree policy) =
    answered_text (judged (record { name = name; node = node; verdict = verdict }) tree policy)
told_text name (Failed errno tree) = answered_text (failed errno tree)
told_text name (NoProfile policy) = answered_text (no_profile policy)
told_text name (Busy began ended) = []
told_text name NoEntry = codes "no entry"

-- these bytes are an answer that is right for all changes of tree and policy that the session has seen
abbrev pub TellsRightly : Sitting → List ℕ → Perms → List ℕ → Type 0
TellsRightly now path ask bytes =
    (answer : Answer) × Justified now.profile path ask now.walk.view.seen now.reading.seen answer
    × (bytes ≡ line (told_text now.judged answer))
