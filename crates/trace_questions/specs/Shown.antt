-- Names as they are shown in lines of text.
use Rattle.std.specs.Prelude.{ℕ, ◌+◌, ◌/◌, ◌%◌, Bool, not, ◌&&◌, ◌==◌, List, [], ◌∷◌, if◌then◌else◌}
use Rattle.std.specs.Char.{is_ascii_control}
use Rattle.std.specs.List.{flat_map}
use Rattle.names.specs.Ascii as ascii

-- no control byte, and no backslash
abbrev pub is_plain : ℕ → Bool
is_plain b = not (is_ascii_control b) && not (b == ascii.backslash)

-- a backslash, and the byte's number in three octal digits, as proc_pid_mounts(5) has it
abbrev pub octal : ℕ → List ℕ
octal b = ascii.backslash ∷ (ascii.digit_0 + b / 64) ∷ (ascii.digit_0 + b / 8 % 8) ∷ (ascii.digit_0 + b % 8) ∷ []

abbrev pub shown_byte : ℕ → List ℕ
shown_byte b = if is_plain b then b ∷ [] else octal b

abbrev pub shown_name : List ℕ → List ℕ
shown_name name = flat_map shown_byte name
