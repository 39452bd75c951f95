-- Numbers, read digit by digit.
use Rattle.std.specs.Prelude.{ℕ, ◌+◌, ◌*◌, ◌^◌, ◌&&◌, nat_lt, List, [], ◌∷◌, Option, Some, None, option_and_then, if◌then◌else◌}
use Rattle.std.specs.Char.{digit_value, is_ascii_digit}

-- a number with one more digit appended, if the byte is one and the number then fits
abbrev pub with_digit : ℕ → ℕ → Option ℕ
with_digit n b = if is_ascii_digit b && nat_lt (n * 10 + digit_value b) (2 ^ 64) then Some (n * 10 + digit_value b) else None

abbrev pub with_digits : ℕ → List ℕ → Option ℕ
with_digits n [] = Some n
with_digits n (b ∷ word) = option_and_then (λ more. with_digits more word) (with_digit n b)
