-- What contracts say about links by a guarded row: what the definition answers for the tree that the keeper of this row kept when its
-- lock was taken, all of whose changes the session has seen then, and for the policy that the session has seen.
use Rattle.std.specs.Prelude.{◌≡◌, ℕ, List, []}
use Rattle.atomic_table.specs.Seated.{TableId}
use Rattle.dentry_cache.specs.Models.{Held}
use Rattle.mediation.specs.declared.answer.LinkAnswer.{LinkAnswer}
use Rattle.mediation.specs.Answers.{link_answered, name_linked}
use Rattle.mediation.specs.History.{link_answer}
use Rattle.path_session.specs.Sessions.{Sitting}
use Rattle.path_session.specs.AtHand.{IsNoLink}
use Rattle.path_session.specs.KeeperStates.{history_of}
use Rattle.path_session.specs.declared.unanswered.Unanswered.{Unanswered}

-- the keeper of this row, after the changes that the session has seen
abbrev pub IsKeptAt : TableId → Sitting → Held → Type 0
IsKeptAt table now held = (held.table ≡ table) × (held.history ≡ now.walk.view.seen)

abbrev pub IsAnswerOf : TableId → Sitting → List ℕ → List ℕ → LinkAnswer → Type 0
IsAnswerOf table now old new answer =
    (held : Held) × IsKeptAt table now held
    × (link_answered now.judged answer ≡ link_answer (history_of held now.reading.seen) now.profile old new)
    × (now.judged ≡ name_linked (link_answer (history_of held now.reading.seen) now.profile old new))

abbrev pub IsNoAnswerOf : TableId → Sitting → Sitting → List ℕ → List ℕ → Unanswered → Type 0
IsNoAnswerOf table before now old new why =
    (now.judged ≡ []) × ((held : Held) × IsKeptAt table now held
    × IsNoLink before now (link_answer (history_of held now.reading.seen) now.profile old new) why)
