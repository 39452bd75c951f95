-- The limits of a path (our choice).
use Rattle.std.specs.Prelude.{ℕ}

-- the most items of a path, with the braces and commas of its groups
abbrev pub most_items : ℕ
most_items = 1024

-- the most places of a path: two for each item
abbrev pub most_places : ℕ
most_places = 2048
