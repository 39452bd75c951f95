-- The number of a priority, as it is written (apparmor.d(5) of AppArmor 4.1, "Rule Qualifiers").
use Rattle.std.specs.Prelude.{ℕ, ◌+◌, ◌-◌, ◌*◌, List, [], ◌∷◌, not, ◌==◌, drop}
use Rattle.std.specs.Char.{is_ascii_digit}
use Rattle.names.specs.Ascii as ascii
use Rattle.rule_reader.specs.TextBytes.{begins, is_white}
use Rattle.rule_reader.specs.ReadWords.{leading, after}
use Rattle.apparmor_words.specs.Priorities.{past_sign}
use Rattle.apparmor_rules.specs.SubjectRules.{Priority}

-- what follows =
abbrev pub priority_number : List ℕ → List ℕ
priority_number bytes = after is_white (drop 1 (after (λ b. not (b == ascii.equals)) bytes))

abbrev pub priority_digits : List ℕ → List ℕ
priority_digits bytes = leading is_ascii_digit (past_sign (priority_number bytes))

-- the decimal number that these digits follow
abbrev pub decimal_from : ℕ → List ℕ → ℕ
decimal_from number [] = number
decimal_from number (d ∷ digits) = decimal_from (number * 10 + (d - ascii.digit_0)) digits

-- - is 45
abbrev pub priority_of_text : List ℕ → Priority
priority_of_text bytes = record {
  below = begins (λ b. b == ascii.dash) (priority_number bytes);
  size = decimal_from 0 (priority_digits bytes);
}
