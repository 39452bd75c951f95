-- How great counts can be.
use Rattle.std.specs.Prelude.{ℕ}

-- the largest usize
abbrev pub max_count : ℕ
max_count = 18446744073709551615
