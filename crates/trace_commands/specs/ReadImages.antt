-- How much of an image is read.
use Rattle.std.specs.Prelude.{◌⊎◌, ℕ, ◌+◌, ◌≤◌, List, length, take, Option}
use Rattle.std.specs.Io.KnownBytes.{Consumes}
use Rattle.image_header.specs.Headers.{IsLengthOfAll}

-- no more than a header, or than one byte after the length that the header gives
abbrev pub IsFrontOfImage : List ℕ → Type 0
IsFrontOfImage read = (length read ≤ 20) ⊎ ((n : ℕ) × IsLengthOfAll (take 20 read) n × (length read ≤ n + 1))

-- no more than that was read of what was left, where it is known
abbrev pub ReadsImage : Option (List ℕ) → Option (List ℕ) → Type 0
ReadsImage old new = (read : List ℕ) × Consumes old new read × IsFrontOfImage read
