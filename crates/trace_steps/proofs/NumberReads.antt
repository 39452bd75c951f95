-- Numbers that are read digit by digit.
use Rattle.std.proofs.Common.{◌≡◌, ℕ, ◌+◌, ◌*◌, ◌^◌, ◌<◌, ◌≤◌, ◌&&◌, Bool, true, false, List, [], ◌∷◌, Option, Some, None, refl, sym, ap}
use Rattle.std.proofs.Common.{◌∙◌, arith}
use Rattle.std.specs.Prelude.{nat_lt, option_and_then, if◌then◌else◌}
use Rattle.std.specs.Char.{digit_value, is_ascii_digit}
use Rattle.std.specs.List.{list_all}
use Rattle.std.specs.Str.Parse.{digits_value_after}
use Rattle.std.proofs.lemmas.Bool.{lt-ltb, le-ltb, ltb-true, ltb-false}
use Rattle.trace_steps.specs.inner.Numbers.{with_digits}

-- more digits don't make a number smaller
grows : (n : ℕ) (word : List ℕ) → n ≤ digits_value_after 10 n word
grows n [] = omega arith
grows n (b ∷ word) = let more = grows (n * 10 + digit_value b) word in omega arith

abbrev read_as : Bool → Bool → ℕ → Option ℕ
read_as digits fits n = if digits && fits then Some n else None

none_read : (digits : Bool) (n : ℕ) → None ≡ read_as digits false n
none_read true n = refl
none_read false n = refl

too_large : (n : ℕ) → 2 ^ 64 ≤ n → nat_lt n (2 ^ 64) ≡ false
too_large n h = le-ltb n (2 ^ 64) h

pub digits_read : (n : ℕ) (word : List ℕ) → n < 2 ^ 64 → with_digits n word ≡ read_as (list_all is_ascii_digit word)
    (nat_lt (digits_value_after 10 n word) (2 ^ 64)) (digits_value_after 10 n word)
digits_read n [] h = ap (λ fits. read_as true fits n) (sym (lt-ltb n (2 ^ 64) h))
digits_read n (b ∷ word) h = by (is_ascii_digit b) (nat_lt more (2 ^ 64)) refl (digits_read more word)
  where
    more : ℕ
    more = n * 10 + digit_value b

    whole : ℕ
    whole = digits_value_after 10 more word

    by : (digit fits : Bool) → nat_lt more (2 ^ 64) ≡ fits →
        (more < 2 ^ 64 → with_digits more word ≡ read_as (list_all is_ascii_digit word) (nat_lt whole (2 ^ 64)) whole)
        → option_and_then (λ m. with_digits m word) (if digit && fits then Some more else None)
        ≡ read_as (digit && list_all is_ascii_digit word) (nat_lt whole (2 ^ 64)) whole
    by false fits e rest = refl
    by true true e rest = rest (ltb-true more (2 ^ 64) e)
    by true false e rest = none_read (list_all is_ascii_digit word) whole ∙ ap (λ fits. read_as (list_all is_ascii_digit word) fits whole)
        (sym (too_large whole (omega (arith, grows more word, ltb-false more (2 ^ 64) e))))
