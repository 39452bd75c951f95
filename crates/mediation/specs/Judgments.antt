-- What was judged, with its name at the front of a room.
use Rattle.std.specs.Prelude.{ℕ, List, take}
use Rattle.mediation.specs.declared.opens.Judged as code
use Rattle.mediation.specs.declared.opens.Reached as reached_code
use Rattle.mediation.specs.declared.links.JudgedLink as link_code
use Rattle.mediation.specs.Opens.{Judged, Reached}
use Rattle.mediation.specs.Links.{JudgedLink}

-- a file that was reached
abbrev pub reached_of : List ℕ → reached_code.Reached → Reached
reached_of room r = record { name = take r.name_length room; node = r.node }

-- a file that was judged
abbrev pub judged_of : List ℕ → code.Judged → Judged
judged_of room j = record { name = take j.name_length room; node = j.node; verdict = j.verdict }

-- a link that was judged, with the name of its new entry
abbrev pub link_of : List ℕ → link_code.JudgedLink → JudgedLink
link_of room j = record { name = take j.name_length room; node = j.node; verdict = j.verdict }
