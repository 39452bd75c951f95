-- The priority of a rule (apparmor.d(5) of AppArmor 4.1, "Rule Qualifiers"): priority=N, where N is a whole number with or without a
-- sign.
use Rattle.std.specs.Prelude.{ℕ, List, Result, Ok, Err, Bool, false, not, ◌&&◌, ◌||◌, ◌==◌, if◌then◌else◌, drop, codes}
use Rattle.std.specs.Char.{is_ascii_digit}
use Rattle.std.specs.List.{list_any}
use Rattle.names.specs.Ascii as ascii
use Rattle.rule_reader.specs.TextBytes.{begins, is_white}
use Rattle.rule_reader.specs.ReadWords.{after, leading, is_word}
use Rattle.apparmor_words.specs.Steps.{Stop, ◌>>=◌, syntax_here}
use Rattle.apparmor_words.specs.Statements.{past_byte, past_word}

-- +, -
abbrev pub is_sign : ℕ → Bool
is_sign b = b == ascii.plus || b == ascii.dash

abbrev pub past_sign : List ℕ → List ℕ
past_sign bytes = if begins is_sign bytes then drop 1 bytes else bytes

abbrev pub past_digits : List ℕ → Result (List ℕ) Stop
past_digits bytes = if begins is_ascii_digit bytes then Ok (after is_ascii_digit bytes) else syntax_here bytes

-- the number after the word here and =, with white space between them or not
abbrev pub number_at : List ℕ → Result (List ℕ) Stop
number_at bytes = past_word bytes >>= λ equals. past_byte ascii.equals (after is_white equals) >>= λ number. Ok (after is_white number)

-- what is left after the word here, = and a number
abbrev pub past_priority : List ℕ → Result (List ℕ) Stop
past_priority bytes = number_at bytes >>= λ number. past_digits (past_sign number)

-- some digit at the front isn't 0
abbrev pub has_size : List ℕ → Bool
has_size digits = list_any (λ d. not (d == ascii.digit_0)) (leading is_ascii_digit digits)

-- the number is over 0: no - is before it
abbrev pub is_over_zero : Result (List ℕ) Stop → Bool
is_over_zero (Ok number) = not (begins (λ b. b == ascii.dash) number) && has_size (past_sign number)
is_over_zero (Err stop) = false

-- a priority over 0 is here
abbrev pub is_raised : List ℕ → Bool
is_raised bytes = is_word (codes "priority") bytes && is_over_zero (number_at bytes)
