-- What contracts see of a publisher and of a reader.
use Rattle.std.specs.Prelude.{◌≡◌, ◌≢◌, ◌⊎◌, ℕ, ◌+◌, List, length, IsSome}
use mathlib.Core.List.{IsPrefix}
use Rattle.mediation.specs.Deeds.{Deed, policy_after}

-- the changes that were published, and after these the ones that are staged
pub record Publishing : Type 0 where
  pub published : List Deed
  pub staged : List Deed

-- how many there are of both
abbrev pub changes_of : Publishing → ℕ
changes_of p = length p.published + length p.staged

-- the changes that were published, up to where the reader saw them last, how often it was let in since it last learned a note,
-- how often it wasn't answered, and the changes of the note that it learned last
pub record Reading : Type 0 where
  pub seen : List Deed
  pub entries : ℕ
  pub refused : ℕ
  pub learned : List Deed

-- Why a reader isn't answered: it isn't let in, and sees nothing new; or it is, and was given no share of the profile under the
-- name.
abbrev pub IsUnanswered : Reading → Reading → List ℕ → Type 0
IsUnanswered before now name =
    ((now.seen ≡ before.seen) × (now.entries ≡ before.entries))
    ⊎ ((now.entries ≡ before.entries + 1) × IsSome (policy_after now.seen name))

-- the reader once it has learned what is published
abbrev pub having_learned : List Deed → Reading → Reading
having_learned published before = record { seen = published; entries = 0; refused = before.refused; learned = published }

-- With a publisher held exclusively each refusal is counted, and there are these: no place was free for a note, and nothing was
-- learned; or the reader learned what is published, and wasn't answered then, or saw more than this publisher had published.
abbrev pub IsUnansweredWith : List Deed → Reading → Reading → List ℕ → Type 0
IsUnansweredWith published before now name =
    (now.refused ≡ before.refused + 1)
    × (((now.seen ≡ before.seen) × (now.entries ≡ before.entries) × (now.learned ≡ before.learned))
    ⊎ ((now.learned ≡ published) × IsPrefix published now.seen
    × (IsUnanswered (having_learned published before) now name ⊎ (now.seen ≢ published))))
