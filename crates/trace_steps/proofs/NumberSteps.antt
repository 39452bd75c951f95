-- The value of a word, digit by digit.
use Rattle.std.proofs.Common.{◌≡◌, ℕ, ◌+◌, ◌<◌, ◌≤◌, List, ◌∷◌, length, get_or, drop, Option, Some, None, refl, sym, ap, ◌∙◌, ◌==◌, Bool}
use Rattle.std.proofs.Common.{false, add-one, drop-cons, arith, ne_eqb}
use Rattle.std.specs.Prelude.{◌^◌, ◌&&◌, not, nat_lt, option_and_then, if◌then◌else◌}
use Rattle.std.specs.Char.{is_ascii_digit}
use Rattle.std.specs.List.{list_all}
use Rattle.std.specs.Str.Parse.{digits_value}
use Rattle.std.proofs.lemmas.List.{drop_all}
use Rattle.trace_steps.specs.StepScript.{number_of}
use Rattle.trace_steps.specs.inner.Numbers.{with_digit, with_digits}
use Rattle.trace_steps.proofs.NumberReads.{digits_read}

-- the number of a word, by whether it is empty
abbrev read_where : Bool → List ℕ → Option ℕ
read_where empty word =
    if not empty && (list_all is_ascii_digit word && nat_lt (digits_value 10 word) (2 ^ 64)) then Some (digits_value 10 word) else None

-- the number of a word is the value of its digits
number_is : (word : List ℕ) → false ≡ (length word == 0) → with_digits 0 word ≡ number_of word
number_is word some = digits_read 0 word (omega arith) ∙ ap (λ (empty : Bool). read_where empty word) some

next_byte : (word : List ℕ) (i : ℕ) → i < length word → drop i word ≡ get_or word i 0 ∷ drop (i + 1) word
next_byte word i h = rw (add-one, drop-cons word i 0) refl

digits_from : (n : ℕ) (word : List ℕ) (i : ℕ) → i < length word → with_digits n (drop i word) ≡ option_and_then
    (λ more. with_digits more (drop (i + 1) word)) (with_digit n (get_or word i 0))
digits_from n word i h = ap (with_digits n) (next_byte word i h)

module _ (n : ℕ) (word : List ℕ) (i : ℕ) (so_far : with_digits n (drop i word) ≡ with_digits 0 word) where
  pub no_digit : i < length word → None ≡ with_digit n (get_or word i 0) → None ≡ number_of word
  no_digit h read = ap (option_and_then (λ more. with_digits more (drop (i + 1) word))) read ∙ sym (digits_from n word i h) ∙ so_far
      ∙ number_is word (sym (ne_eqb (length word) 0 (omega arith)))

  pub all_read : length word ≤ i → false ≡ (length word == 0) → Some n ≡ number_of word
  all_read over some = ap (with_digits n) (sym (drop_all i word over)) ∙ so_far ∙ number_is word some
