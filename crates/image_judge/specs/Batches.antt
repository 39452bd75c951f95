-- Many names judged in one call.
use Rattle.std.specs.Prelude.{◌≡◌, ℕ, ◌+◌, ◌&&◌, nat_le, List, Option, Some, None, length, slice_get, slice_range, if◌then◌else◌}
use Rattle.std.specs.Option.{option_and_then}
use Rattle.image_judge.specs.Answers.{IsAnswerOf, no_answer}
use Rattle.image_judge.specs.Sets.{set_of_number}
use Rattle.image_judge.specs.declared.answer.Answer.{Answer}

-- the part of a text from one place to another, if there is one
abbrev pub part_of : List ℕ → ℕ → ℕ → Option (List ℕ)
part_of text begin end = if nat_le begin end && nat_le end (length text) then Some (slice_range text begin end) else None

-- the name from an offset to the next one, if there is one
abbrev pub name_at : List ℕ → List ℕ → ℕ → Option (List ℕ)
name_at names offsets i =
    option_and_then (λ begin. option_and_then (λ end. part_of names begin end) (slice_get offsets (i + 1))) (slice_get offsets i)

-- the answer for a name, if there is one
abbrev pub IsAnswerAt : List ℕ → ℕ → Option (List ℕ) → Answer → Type 0
IsAnswerAt image asked None a = a ≡ no_answer
IsAnswerAt image asked (Some name) a = IsAnswerOf image (set_of_number asked) name a

-- there is an answer for each name, and no other
pub record AreAnswersOf (image : List ℕ) (asked : ℕ) (names offsets : List ℕ) (old new : List Answer) : Type 0 where
  pub long : length new ≡ length old
  pub each : (i : ℕ) (a : Answer) → slice_get new i ≡ Some a → IsAnswerAt image asked (name_at names offsets i) a
