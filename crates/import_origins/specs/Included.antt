-- The files that a flattened text names where they begin in it: before the text of each included file, `apparmor_parser
-- --preprocess` (3.0.8) prints a line `##included <NAME>`, or with the name in quotes; where the file ends it prints nothing.
use Rattle.std.specs.Prelude.{ℕ, suc, List, [], ◌∷◌, ◌++◌, codes, drop, Option, Some, None, nat_eq, nat_le, if◌then◌else◌}
use Rattle.std.specs.List.{starts_with}
use Rattle.rule_explain.specs.Places.{is_line_feed}

-- the file that a line names, as it names it: what follows the 11 bytes of `##included `
abbrev pub file_of_line : List ℕ → Option (List ℕ)
file_of_line line = if starts_with nat_eq line (codes "##included ") then Some (drop 11 line) else None

-- a file that is named in a line, and how many bytes of the text come before the line after it
pub record Mark : Type 0 where
  pub file : List ℕ
  pub end : ℕ

abbrev pub mark_at : ℕ → Option (List ℕ) → List Mark
mark_at end None = []
mark_at end (Some file) = record { file = file; end = end } ∷ []

-- the mark of a line, if it names a file
abbrev pub line_marks : ℕ → List ℕ → List Mark
line_marks end line = mark_at end (file_of_line line)

-- The marks of these bytes, where `before` bytes come before them, among them those of the line so far.
abbrev pub marks_from : ℕ → List ℕ → List ℕ → List Mark
marks_from before line [] = []
marks_from before line (b ∷ bytes) =
    if is_line_feed b then line_marks (suc before) line ++ marks_from (suc before) [] bytes
    else marks_from (suc before) (line ++ b ∷ []) bytes

-- those of a text, in their order
abbrev pub marks_of : List ℕ → List Mark
marks_of text = marks_from 0 [] text

-- the file of the last of these marks that ends before a place, or else this one
abbrev pub last_file : ℕ → List Mark → Option (List ℕ) → Option (List ℕ)
last_file place [] last = last
last_file place (m ∷ marks) last = last_file place marks (if nat_le m.end place then Some m.file else last)

-- The file that a text names last before a place: the place is in it, or after it.
abbrev pub file_before : List ℕ → ℕ → Option (List ℕ)
file_before text place = last_file place (marks_of text) None
