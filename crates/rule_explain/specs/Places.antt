-- Lines and columns of a text.
use Rattle.std.specs.Prelude.{ℕ, ◌+◌, Bool, List, ◌==◌, length, take, drop, count_by}
use Rattle.std.specs.List.{after_last, before_first}
use Rattle.names.specs.Ascii as ascii
use Rattle.rule_explain.specs.declared.place.Place.{Place}

abbrev pub is_line_feed : ℕ → Bool
is_line_feed b = b == ascii.line_feed

-- the bytes of a line before the byte at this offset
abbrev pub front_of_line : List ℕ → ℕ → List ℕ
front_of_line text offset = after_last is_line_feed (take offset text)

-- and those from it on, without the line feed that ends the line
abbrev pub rest_of_line : List ℕ → ℕ → List ℕ
rest_of_line text offset = before_first is_line_feed (drop offset text)

-- the place of that byte: lines and columns are counted from 1, and columns count bytes
abbrev pub place_at : List ℕ → ℕ → Place
place_at text offset = record {
  line = count_by is_line_feed (take offset text) + 1;
  column = length (front_of_line text offset) + 1;
}
