-- What an option's text is read as.
use Rattle.std.proofs.Common.{◌≡◌, ◌∙◌, ◌&&◌, ◌<◌, ◌≤◌, ◌^◌, ℕ, Bool, true, false, zero, suc, [], ◌∷◌, Option, Some, None, Result, Ok}
use Rattle.std.proofs.Common.{Err}
use Rattle.std.proofs.Common.{refl, sym, ap, arith}
use Rattle.std.specs.Prelude.{int_le, is_some, nat_eq, nat_le, nat_lt, neg_ℤ, option_and_then, pos}
use Rattle.std.specs.Str.Parse.{ExplainsUnsignedError, HasUnsignedDigitsIfOk, ParsesUnsigned, digits_value, without_leading_plus}
use Rattle.std.specs.Str.Parse.{without_leading_sign}
use Rattle.std.proofs.lemmas.Bool.{eqb-true, leb-true, le-leb, lt-ltb, ltb-true}
use Rattle.clap.specs.Lexer.{without_minus}
use Rattle.clap.specs.Matches.{ReadsOne, one_text}
use Rattle.clap.specs.ValueTests.{fits_i64, is_numeral, is_unsigned_in}
use Rattle.clap.specs.Walk.{Text, one_of, rows_of}
use Rattle.clap.specs.declared.parser.matches.Found.{Found}
use Rattle.clap.proofs.ValueTestLemmas.{Accepts-accepts, accepts-Accepts}
use Rattle.clap.proofs.WalkLemmas.{both, one_text-rows}
use Rattle.clap.specs.declared.builder.value_parser.ValueParser.TheVariants.{Unsigned}
use Rattle.trace_arguments.specs.Given.{is_number_of}
use Rattle.trace_forms.specs.Forms.{NumberOption}
use Rattle.trace_arguments.specs.inner.Parser.{number_read, small_number}

abbrev is_small : Text → Bool
is_small text = is_unsigned_in 0 4294967295 text

small : (text : Text) → is_small text ≡ true → small_number text ≡ Some (digits_value 10 (without_leading_plus text))
small text e = rw e refl

-- ---- what `get_one` gives

read_none : (text : Text) (is : Bool) → is_small text ≡ is → (is_small text ≡ true → ⊥) → small_number text ≡ None
read_none text false e not = rw e refl
read_none text true e not = absurd (not e)

pub reads_number : {E : Type 0} (G : Text → Result ℕ E → Type 0) (text : Text) (r : Option ℕ)
    → ((u : Text) (x : Result ℕ E) → G u x → ParsesUnsigned 32 10 u x) → ReadsOne G text r → small_number text ≡ r
reads_number G text (Some v) only h =
    let read = only text (Ok v) h in
    let most : digits_value 10 (without_leading_plus text) < 2 ^ 32 = read.0.1 in
    let taken : is_small text ≡ true = Accepts-accepts false (Unsigned 0 4294967295) text
    (read.0.0, omega arith, omega arith, omega arith) in
    small text taken ∙ ap Some (sym read.1)
reads_number G text None only h = read_none text (is_small text) refl (λ e.
    let taken = accepts-Accepts false (Unsigned 0 4294967295) text e in
    let most : digits_value 10 (without_leading_plus text) ≤ 4294967295 = taken.3 in
    only text (Err h.0) h.1 (taken.0, omega arith))

pub number_given : (f : Found) (name : Text) (r : Option ℕ) → is_some (number_read name (rows_of f)) ≡ true →
    ((text : Text) → one_text f name ≡ Some text
    → ReadsOne (λ bs x. ParsesUnsigned 32 10 bs x × ExplainsUnsignedError 10 bs x × HasUnsignedDigitsIfOk bs x) text r) →
    number_read name (rows_of f) ≡ r
number_given f name r some reads = go (one_of name (rows_of f)) (one_text-rows f name) some
  where
    go : (o : Option Text) → one_text f name ≡ o → is_some (option_and_then small_number o) ≡ true → option_and_then small_number o ≡ r
    go None is some = absurd (cc some)
    go (Some text) is some =
        reads_number (λ bs x. ParsesUnsigned 32 10 bs x × ExplainsUnsignedError 10 bs x × HasUnsignedDigitsIfOk bs x) text r
        (λ u x h. h.0) (reads text is)

-- ---- what an option takes

and_false : (a : Bool) → (a && false) ≡ false
and_false true = refl
and_false false = refl

-- digits don't begin with a plus
plus_numeral : (x : ℕ) (xs : Text) → x ≡ 43 → is_numeral (x ∷ xs) ≡ false
plus_numeral x xs e = rw e (and_false _)

without_plus_if : (x : ℕ) (xs : Text) (plus : Bool) → nat_eq x 43 ≡ plus → is_numeral (x ∷ xs) ≡ true →
    without_leading_plus (x ∷ xs) ≡ x ∷ xs
without_plus_if x xs true e is = absurd (cc (plus_numeral x xs (eqb-true x 43 e), is))
without_plus_if x xs false e is = rw e refl

without_plus : (ds : Text) → is_numeral ds ≡ true → without_leading_plus ds ≡ ds
without_plus [] is = refl
without_plus (x ∷ xs) is = without_plus_if x xs (nat_eq x 43) refl is

-- a number from 0 on, below a bound of 32 bits
small_if : (text : Text) → is_numeral (without_leading_plus text) ≡ true → digits_value 10 (without_leading_plus text) < 2 ^ 32
    → small_number text ≡ Some (digits_value 10 (without_leading_plus text))
small_if text is below =
    let n : ℕ = digits_value 10 (without_leading_plus text) in
    let wide : n < 2 ^ 64 = omega arith in
    let least : 0 ≤ n = omega arith in
    let most : n ≤ 4294967295 = omega arith in
    small text (rw (is, lt-ltb n (2 ^ 64) wide, le-leb 0 n least, le-leb n 4294967295 most) refl)

-- no number below zero is at least a number from zero on
minus_zero : (least n : ℕ) → int_le (pos least) (neg_ℤ (pos n)) ≡ true → n ≡ 0
minus_zero least zero e = refl
minus_zero least (suc n) e = absurd (cc e)

taken_if : (o : NumberOption) (x : ℕ) (xs : Text) (minus : Bool) → nat_eq x 45 ≡ minus → o.most < 2 ^ 32 → is_number_of o (x ∷ xs) ≡ true
    → small_number (without_minus (x ∷ xs)) ≡ Some (digits_value 10 (without_leading_sign (x ∷ xs)))
taken_if o x xs true e below is =
    let n : ℕ = digits_value 10 xs in
    let tests = both (is_numeral xs)
    (fits_i64 (neg_ℤ (pos n)) && (int_le (pos o.least) (neg_ℤ (pos n)) && int_le (neg_ℤ (pos n)) (pos o.most))) (rw e at is) in
    let range = both (fits_i64 (neg_ℤ (pos n))) (int_le (pos o.least) (neg_ℤ (pos n)) && int_le (neg_ℤ (pos n)) (pos o.most)) tests.1 in
    let none : n ≡ 0 = minus_zero o.least n
    (both (int_le (pos o.least) (neg_ℤ (pos n))) (int_le (neg_ℤ (pos n)) (pos o.most)) range.1).0 in
    let plain : without_leading_plus xs ≡ xs = without_plus xs tests.0 in
    let numeral : is_numeral (without_leading_plus xs) ≡ true = ap is_numeral plain ∙ tests.0 in
    let zero_too : digits_value 10 (without_leading_plus xs) ≡ 0 = ap (digits_value 10) plain ∙ none in
    rw e (small_if xs numeral (omega arith) ∙ ap (λ (ds : Text). Some (digits_value 10 ds)) plain)
taken_if o x xs false e below is =
    let ds : Text = without_leading_plus (x ∷ xs) in
    let n : ℕ = digits_value 10 ds in
    let tests = both (is_numeral ds) (fits_i64 (pos n) && (nat_le o.least n && nat_le n o.most)) (rw e at is) in
    let range = both (fits_i64 (pos n)) (nat_le o.least n && nat_le n o.most) tests.1 in
    let most : n ≤ o.most = leb-true n o.most (both (nat_le o.least n) (nat_le n o.most) range.1).1 in
    rw e (small_if (x ∷ xs) tests.0 (omega arith))

most_if : (o : NumberOption) (x : ℕ) (xs : Text) (minus : Bool) → nat_eq x 45 ≡ minus → is_number_of o (x ∷ xs) ≡ true
    → digits_value 10 (without_leading_sign (x ∷ xs)) ≤ o.most
most_if o x xs true e is =
    let n : ℕ = digits_value 10 xs in
    let tests = both (is_numeral xs)
    (fits_i64 (neg_ℤ (pos n)) && (int_le (pos o.least) (neg_ℤ (pos n)) && int_le (neg_ℤ (pos n)) (pos o.most))) (rw e at is) in
    let range = both (fits_i64 (neg_ℤ (pos n))) (int_le (pos o.least) (neg_ℤ (pos n)) && int_le (neg_ℤ (pos n)) (pos o.most)) tests.1 in
    let none : n ≡ 0 = minus_zero o.least n
    (both (int_le (pos o.least) (neg_ℤ (pos n))) (int_le (neg_ℤ (pos n)) (pos o.most)) range.1).0 in
    rw (e, none) (omega arith)
most_if o x xs false e is =
    let ds : Text = without_leading_plus (x ∷ xs) in
    let n : ℕ = digits_value 10 ds in
    let tests = both (is_numeral ds) (fits_i64 (pos n) && (nat_le o.least n && nat_le n o.most)) (rw e at is) in
    let range = both (fits_i64 (pos n)) (nat_le o.least n && nat_le n o.most) tests.1 in
    let most : n ≤ o.most = leb-true n o.most (both (nat_le o.least n) (nat_le n o.most) range.1).1 in
    rw e most

-- no number that an option accepts is over its greatest
pub taken_most : (o : NumberOption) (text : Text) → is_number_of o text ≡ true → digits_value 10 (without_leading_sign text) ≤ o.most
taken_most o [] is = absurd (cc is)
taken_most o (x ∷ xs) is = most_if o x xs (nat_eq x 45) refl is

-- what an option accepts is read as the number that it writes
pub taken_read : (o : NumberOption) (text : Text) → nat_lt o.most 4294967296 ≡ true → is_number_of o text ≡ true
    → small_number (without_minus text) ≡ Some (digits_value 10 (without_leading_sign text))
taken_read o [] below is = absurd (cc is)
taken_read o (x ∷ xs) below is = taken_if o x xs (nat_eq x 45) refl (ltb-true o.most 4294967296 below) is
