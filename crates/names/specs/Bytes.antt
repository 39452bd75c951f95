-- Lists of bytes.
use Rattle.std.specs.Prelude.{ℕ, ◌<◌, List, All}

abbrev pub are_bytes : List ℕ → Type 0
are_bytes bytes = All (λ b. b < 256) bytes
