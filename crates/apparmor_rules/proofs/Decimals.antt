-- A number of digits is 0 where each of them is.
use Rattle.std.proofs.Common.{◌≡◌, ℕ, ◌+◌, ◌-◌, ◌*◌, ◌≤◌, Bool, true, false, cond, List, [], ◌∷◌, refl, sym, ap, ◌∙◌, eq-eqb, ◌==◌, arith}
use Rattle.std.specs.Prelude.{◌&&◌}
use Rattle.std.specs.Char.{is_ascii_digit}
use Rattle.std.specs.List.{list_all}
use Rattle.std.proofs.lemmas.Bool.{and_parts, eqb-true, eqb-false, ne_eqb, leb-true}
use Rattle.rule_reader.specs.ReadWords.{leading}
use Rattle.apparmor_words.specs.Priorities.{past_sign}
use Rattle.apparmor_rules.specs.Priorities.{decimal_from, priority_digits, priority_number, priority_of_text}

leading_pass : (test : ℕ → Bool) (bytes : List ℕ) → list_all test (leading test bytes) ≡ true
leading_pass test [] = refl
leading_pass test (b ∷ bytes) = at (leading_pass test bytes) (test b) refl
  where
    at : list_all test (leading test bytes) ≡ true → (t : Bool) → test b ≡ t →
        list_all test (cond t (b ∷ leading test bytes) []) ≡ true
    at others true e = rw (e) others
    at others false e = refl

digit_is_high : (d : ℕ) → is_ascii_digit d ≡ true → 48 ≤ d
digit_is_high d h = leb-true 48 d (and_parts _ _ h).0

with_a_digit : (n d : ℕ) → 48 ≤ d → ((n * 10 + (d - 48)) == 0) ≡ ((n == 0) && (d == 48))
with_a_digit n d high = at (n == 0) (d == 48) refl refl
  where
    at : (a b : Bool) → (n == 0) ≡ a → (d == 48) ≡ b → ((n * 10 + (d - 48)) == 0) ≡ (a && b)
    at true true e f =
        let none = eqb-true n 0 e in
        let zero = eqb-true d 48 f in
        eq-eqb (n * 10 + (d - 48)) 0 (omega (arith, none, zero))
    at true false e f =
        let other = eqb-false d 48 f in
        ne_eqb (n * 10 + (d - 48)) 0 (λ h. other (omega (arith, high, h)))
    at false b e f =
        let some = eqb-false n 0 e in
        ne_eqb (n * 10 + (d - 48)) 0 (λ h. some (omega (arith, h)))

and_again : (a b c : Bool) → ((a && b) && c) ≡ (a && (b && c))
and_again true b c = refl
and_again false b c = refl

and_nothing : (a : Bool) → a ≡ (a && true)
and_nothing true = refl
and_nothing false = refl

from_zeros : (n : ℕ) (digits : List ℕ) → list_all is_ascii_digit digits ≡ true →
    (decimal_from n digits == 0) ≡ ((n == 0) && list_all (λ digit. digit == 48) digits)
from_zeros n [] h = and_nothing (n == 0)
from_zeros n (d ∷ digits) h =
    let p = and_parts (is_ascii_digit d) (list_all is_ascii_digit digits) h in
    from_zeros (n * 10 + (d - 48)) digits p.1
    ∙ ap (λ (b : Bool). b && list_all (λ digit. digit == 48) digits) (with_a_digit n d (digit_is_high d p.0))
    ∙ and_again (n == 0) (d == 48) (list_all (λ digit. digit == 48) digits)

pub zero_digits : (bytes : List ℕ) → list_all (λ digit. digit == 48) (priority_digits bytes) ≡ ((priority_of_text bytes).size == 0)
zero_digits bytes =
    sym (from_zeros 0 (priority_digits bytes) (leading_pass is_ascii_digit (past_sign (priority_number bytes))))
