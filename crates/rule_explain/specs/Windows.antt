-- How a place of a text is shown: what is said of it, the part of its line about it, and a caret below the byte.
use Rattle.std.specs.Prelude.{ℕ, ◌+◌, ◌-◌, Bool, List, ◌++◌, ◌&&◌, ◌||◌, ◌==◌, nat_le, if◌then◌else◌, codes, decimal, drop, length}
use Rattle.std.specs.Prelude.{map, replicate, take}
use Rattle.names.specs.Ascii as ascii
use Rattle.rule_explain.specs.declared.place.Place.{Place}
use Rattle.rule_explain.specs.Places.{front_of_line, rest_of_line, place_at}

-- space to ~
abbrev pub is_printable : ℕ → Bool
is_printable b = nat_le ascii.space b && nat_le b ascii.tilde

-- A byte as it is shown. Only printable ASCII is, so that a text can't drive the terminal: a tab is one space, and each other byte
-- is `?`. So a byte takes one column (our choice).
abbrev pub shown : ℕ → ℕ
shown b = if b == ascii.tab then ascii.space else if is_printable b then b else ascii.question_mark

-- A line of up to 72 bytes is shown whole. Of a longer one at most 72 columns are shown, and at most 36 of them before the place,
-- with two dots where the line is cut (our choice).
abbrev pub fits : List ℕ → List ℕ → Bool
fits front rest = nat_le (length front + length rest) 72

-- what is shown of the bytes before the place
abbrev pub shown_front : List ℕ → List ℕ → List ℕ
shown_front front rest =
    if nat_le (length front) 36 || fits front rest then map shown front else codes ".." ++ map shown (drop (length front - 34) front)

-- and of those from it on, in this many columns
abbrev pub shown_rest : ℕ → List ℕ → List ℕ
shown_rest room rest = if nat_le (length rest) room then map shown rest else map shown (take (room - 2) rest) ++ codes ".."

abbrev pub shown_line : List ℕ → List ℕ → List ℕ
shown_line front rest = shown_front front rest ++ shown_rest (72 - length (shown_front front rest)) rest

-- a caret below the place
abbrev pub caret_line : List ℕ → List ℕ → List ℕ
caret_line front rest = replicate (length (shown_front front rest)) ascii.space ++ codes "^"

-- `line 3, column 7: permissions are missing at byte 17`, in a text before which there are this many lines
abbrev pub place_line : ℕ → Place → List ℕ → List ℕ
place_line lines_before place said =
    codes "line " ++ (decimal (lines_before + place.line) ++ (codes ", column " ++ (decimal place.column ++ (codes ": " ++ said))))

-- the three lines, without the end of the last one
abbrev pub window_lines : List ℕ → List ℕ → List ℕ
window_lines front rest = shown_line front rest ++ (codes "\n" ++ caret_line front rest)

abbrev pub place_lines : ℕ → List ℕ → ℕ → List ℕ → List ℕ
place_lines lines_before text offset said =
    place_line lines_before (place_at text offset) said
    ++ (codes "\n" ++ window_lines (front_of_line text offset) (rest_of_line text offset))
