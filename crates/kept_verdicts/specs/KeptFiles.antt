-- What is kept of a file that was judged.
use Rattle.std.specs.Prelude.{ℕ, List, take}
use Rattle.mediation.specs.declared.opens.Judged as code
use Rattle.verdict_cache.specs.Questions.{Kept}

-- its verdict, its node, and its name, which is at the front of the room
abbrev pub kept_of : List ℕ → code.Judged → Kept
kept_of room file = record { verdict = file.verdict; node = file.node; name = take file.name_length room }
