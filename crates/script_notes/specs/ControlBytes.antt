-- Control bytes in the words of a line: they belong to the word that they are in. The sentences are our own.
use Rattle.std.specs.Prelude.{ℕ, Bool, List, ◌++◌, ◌&&◌, ◌||◌, ◌==◌, not, nat_lt, if◌then◌else◌, codes, decimal, find, Option}
use Rattle.names.specs.Ascii as ascii

-- below the space, or delete; a tab separates words
abbrev pub is_control : ℕ → Bool
is_control b = not (b == ascii.tab) && (nat_lt b ascii.space || b == 127)

abbrev pub first_control : List ℕ → Option ℕ
first_control line = find is_control line

abbrev pub what_control : ℕ → List ℕ
what_control b =
    if b == ascii.carriage_return then codes ": a CR ends or is in a word, to which it belongs"
    else codes ": a control byte is in a word, to which it belongs"

abbrev pub control_said : ℕ → ℕ → List ℕ
control_said number b = codes "line " ++ (decimal number ++ what_control b)
