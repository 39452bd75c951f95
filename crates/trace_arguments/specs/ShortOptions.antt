-- Options of one hyphen and a letter.
use Rattle.std.specs.Prelude.{ℕ, List, [], ◌∷◌, ◌++◌, ◌==◌, Option, Some, None, option_and_then, option_map, unwrap_or, codes, find}
use Rattle.std.specs.Prelude.{if◌then◌else◌}
use Rattle.std.specs.Str.{bytes_eq}
use Rattle.names.specs.Ascii as ascii

-- the letters that are short for options
abbrev pub short_options : List (List ℕ × List ℕ)
short_options = (codes "v", codes "--verbose")
    ∷ (codes "q", codes "--quiet")
    ∷ (codes "n", codes "--not-allowed")
    ∷ (codes "0", codes "--null") ∷ []

-- the option that a letter is short for
abbrev pub option_of : ℕ → Option (List ℕ)
option_of letter = option_map (λ pair. pair.1) (find (λ pair. bytes_eq pair.0 (letter ∷ [])) short_options)

-- the options that letters are short for, if each of them is
abbrev pub options_of : List ℕ → Option (List (List ℕ))
options_of [] = Some []
options_of (letter ∷ letters) =
    option_and_then (λ first. option_map (λ others. first ∷ others) (options_of letters)) (option_of letter)

-- the options that a word is short for, which is a hyphen and one or more of the letters
abbrev pub options_in : List ℕ → Option (List (List ℕ))
options_in (b ∷ letter ∷ letters) = if b == ascii.dash then options_of (letter ∷ letters) else None
options_in word = None

-- any other word stands for itself
abbrev pub word_spelled : List ℕ → List (List ℕ)
word_spelled word = unwrap_or (options_in word) (word ∷ [])

-- the words with their short options spelled out; after `--` there is no option
abbrev pub spelled_out : List (List ℕ) → List (List ℕ)
spelled_out [] = []
spelled_out (word ∷ words) =
    if bytes_eq word (codes "--") then word ∷ words else word_spelled word ++ spelled_out words
