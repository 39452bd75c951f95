-- What answers represent, with the name that was judged.
use Rattle.std.specs.Prelude.{◌≡◌, ◌⊎◌, ℕ, List, [], Result, Ok, Err}
use Rattle.names.specs.declared.errors.Errno.{Errno}
use Rattle.rule_judge.specs.declared.links.LinkVerdict.TheVariants.{Fine}
use Rattle.mediation.specs.declared.answer.Answer.{Answer}
use Rattle.mediation.specs.declared.answer.Answer.TheVariants.{Judged, Failed, NoProfile}
use Rattle.mediation.specs.declared.answer.LinkAnswer.{LinkAnswer}
use Rattle.mediation.specs.declared.answer.LinkAnswer.TheVariants as link
use Rattle.mediation.specs.declared.opens.Judged as code
use Rattle.mediation.specs.Opens.{Answered, judged, failed, no_profile}
use Rattle.mediation.specs.Links as linking
use Rattle.mediation.specs.Links.{LinkAnswered}

abbrev pub answered : List ℕ → Answer → Answered
answered name (Judged verdict node tree policy) = judged (record { name = name; node = node; verdict = verdict }) tree policy
answered name (Failed errno tree) = failed errno tree
answered name (NoProfile policy) = no_profile policy

-- the answer to an open that ended so, and the length of the name that it judged
abbrev pub IsAnswerTo : Result code.Judged Errno → ℕ → ℕ → Answer → ℕ → Type 0
IsAnswerTo opened tree policy answer length =
    ((file : code.Judged) × (opened ≡ Ok file) × (answer ≡ Judged file.verdict file.node tree policy) × (length ≡ file.name_length))
    ⊎ ((errno : Errno) × (opened ≡ Err errno) × (answer ≡ Failed errno tree) × (length ≡ 0))

-- the name that an open judged, empty if it judged none
abbrev pub name_opened : Answered → List ℕ
name_opened (judged j tree policy) = j.name
name_opened (failed errno tree) = []
name_opened (no_profile policy) = []

-- an answer to a judged link; the name is the new entry's
abbrev pub link_answered : List ℕ → LinkAnswer → LinkAnswered
link_answered name (link.Linked node tree policy) = linking.made (record { name = name; node = node; verdict = Fine }) tree policy
link_answered name (link.NotAllowed verdict node tree policy) =
    linking.not_allowed (record { name = name; node = node; verdict = verdict }) tree policy
link_answered name (link.Failed errno tree) = linking.failed errno tree
link_answered name (link.NoProfile policy) = linking.no_profile policy

-- the new entry's name if a link was judged, made or not, and otherwise empty
abbrev pub name_linked : LinkAnswered → List ℕ
name_linked (linking.made j tree policy) = j.name
name_linked (linking.not_allowed j tree policy) = j.name
name_linked (linking.failed errno tree) = []
name_linked (linking.no_profile policy) = []

-- what holds unless a link was made
abbrev pub UnlessMade : LinkAnswer → Type 0 → Type 0
UnlessMade (link.Linked node tree policy) holds = Unit {0}
UnlessMade (link.NotAllowed verdict node tree policy) holds = holds
UnlessMade (link.Failed errno tree) holds = holds
UnlessMade (link.NoProfile policy) holds = holds
