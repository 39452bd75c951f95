-- What a look answers.
use Rattle.std.specs.Prelude.{◌≡◌, ℕ, ◌≤◌, List, Option, Some, None, MatchOption, take}
use Rattle.names.specs.Limits.{longest_path}
use Rattle.verdict_cache.specs.declared.judged.Found.{Found}
use Rattle.verdict_cache.specs.Questions.{Asked, Kept, Verdicts, found_under}

-- all of what was kept, with the name at the front of the room
abbrev pub IsShown : Kept → Found → List ℕ → Type 0
IsShown kept found room =
    (found.verdict ≡ kept.verdict) × (found.node ≡ kept.node) × (found.name_length ≤ longest_path)
    × (take found.name_length room ≡ kept.name)

-- what is kept under the question; if nothing is, the room stays as it was
abbrev pub IsAnswer : Asked → Verdicts → List ℕ → List ℕ → Option Found → Type 0
IsAnswer q c before after answer = MatchOption answer
    ((found_under q c ≡ None) × (after ≡ before))
    (λ found. (kept : Kept) × (found_under q c ≡ Some kept) × IsShown kept found after)
