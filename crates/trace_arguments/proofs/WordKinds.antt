-- What clap finds a word to be, where it may be an option.
use Rattle.std.proofs.Common.{◌≡◌, ◌⊎◌, ℕ, ◌==◌, Bool, true, false, [], ◌∷◌, Some, None, refl, inl, inr}
use Rattle.std.specs.Prelude.{codes}
use Rattle.std.specs.Str.{bytes_eq, chars}
use Rattle.std.proofs.lemmas.Bool.{eqb-true}
use Rattle.clap.specs.Lexer.{long_of, short_of, name_and_value}
use Rattle.clap.specs.Walk.{Text}
use Rattle.trace_arguments.specs.Given.{is_option}

pub record IsPlainWord (word : Text) : Type 0 where
  pub dashes : bytes_eq word (codes "--") ≡ false
  pub long : long_of word ≡ None
  pub short : (short_of word ≡ None) ⊎ ((flags : Text) × (short_of word ≡ Some flags) × (chars flags ≡ []))

-- two hyphens, followed by a name and perhaps a value
pub record IsLongWord (word : Text) : Type 0 where
  pub dashes : bytes_eq word (codes "--") ≡ false
  pub body : Text
  pub word_is : word ≡ 45 ∷ 45 ∷ body
  pub long : long_of word ≡ Some (name_and_value body)

pub record IsShortWord (word : Text) : Type 0 where
  pub dashes : bytes_eq word (codes "--") ≡ false
  pub long : long_of word ≡ None
  pub flags : Text
  pub short : short_of word ≡ Some flags
  pub first : ℕ
  pub others : Text
  pub chars_are : chars flags ≡ first ∷ others

pub data Kind (word : Text) : Type 0 where
  is_dashes : word ≡ codes "--" → Kind word
  is_long : is_option word ≡ true → IsLongWord word → Kind word
  is_short : is_option word ≡ true → IsShortWord word → Kind word
  is_plain : is_option word ≡ false → IsPlainWord word → Kind word

-- a word that doesn't begin with a hyphen
no_hyphen : (b : ℕ) (rest : Text) → (b == 45) ≡ false → Kind (b ∷ rest)
no_hyphen b rest e = is_plain (rw e refl) (record { dashes = rw e refl; long = rw e refl; short = inl (rw e refl) })

-- a hyphen, and a byte that isn't one
short_or_plain : (c : ℕ) (rest cs : Text) → (c == 45) ≡ false → chars (c ∷ rest) ≡ cs → Kind (45 ∷ c ∷ rest)
short_or_plain c rest [] e h = is_plain (rw h refl) (record { dashes = rw e refl; long = rw e refl; short = inr (c ∷ rest, rw e refl, h) })
short_or_plain c rest (x ∷ xs) e h = is_short (rw h refl) (record {
  dashes = rw e refl;
  long = rw e refl;
  flags = c ∷ rest;
  short = rw e refl;
  first = x;
  others = xs;
  chars_are = h;
})

after_hyphens : (rest : Text) → Kind (45 ∷ 45 ∷ rest)
unfolding chars
after_hyphens [] = is_dashes refl
after_hyphens (b ∷ rest) = is_long refl (record { dashes = refl; body = b ∷ rest; word_is = refl; long = refl })

after_hyphen : (c : ℕ) (rest : Text) (same : Bool) → (c == 45) ≡ same → Kind (45 ∷ c ∷ rest)
after_hyphen c rest true e = rw (eqb-true c 45 e) (after_hyphens rest)
after_hyphen c rest false e = short_or_plain c rest (chars (c ∷ rest)) e refl

lone_hyphen : Kind (45 ∷ [])
unfolding chars
lone_hyphen = is_plain refl (record { dashes = refl; long = refl; short = inl refl })

hyphen : (rest : Text) → Kind (45 ∷ rest)
hyphen [] = lone_hyphen
hyphen (c ∷ rest) = after_hyphen c rest (c == 45) refl

first_byte : (b : ℕ) (rest : Text) (same : Bool) → (b == 45) ≡ same → Kind (b ∷ rest)
first_byte b rest true e = rw (eqb-true b 45 e) (hyphen rest)
first_byte b rest false e = no_hyphen b rest e

pub kind_of_word : (word : Text) → Kind word
kind_of_word [] = is_plain refl (record { dashes = refl; long = refl; short = inl refl })
kind_of_word (b ∷ rest) = first_byte b rest (b == 45) refl
