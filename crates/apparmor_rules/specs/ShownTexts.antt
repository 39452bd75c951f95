-- A part of a text as an account shows it, on one line.
use Rattle.std.specs.Prelude.{ℕ, List, [], ◌∷◌, ◌++◌, length, codes, take, Bool, true, false, ◌||◌, ◌&&◌, ◌==◌, if◌then◌else◌, nat_lt}
use Rattle.std.specs.Prelude.{nat_le}
use Rattle.names.specs.Ascii as ascii
use Rattle.rule_reader.specs.TextBytes.{is_white}

-- no control byte is shown, so that no text can control the terminal
abbrev pub shown_byte : ℕ → ℕ
shown_byte b = if nat_lt b 32 || b == ascii.delete then ascii.question_mark else b

-- Each run of whitespace becomes one space, except at the start and at the end, where it is dropped. `begun` says that a byte
-- was shown, `gap` that whitespace follows it.
abbrev pub on_one_line : Bool → Bool → List ℕ → List ℕ
on_one_line begun gap [] = []
on_one_line begun gap (b ∷ bytes) =
    if is_white b then on_one_line begun true bytes
    else if begun && gap then ascii.space ∷ shown_byte b ∷ on_one_line true false bytes
    else shown_byte b ∷ on_one_line true false bytes

-- of more than 72 bytes the first 70 are shown
abbrev pub shortened : List ℕ → List ℕ
shortened bytes = if nat_le (length bytes) 72 then bytes else take 70 bytes ++ codes ".."

unfoldable pub shown_text : List ℕ → List ℕ
shown_text bytes = shortened (on_one_line false false bytes)
