-- What the code takes for a word is the word there.
use Rattle.std.proofs.Common.{◌≡◌, ℕ, ◌<◌, Bool, true, false, cond, List, [], ◌∷◌, length, take, drop, get_or, refl, sym, ap, subst, ◌∙◌}
use Rattle.std.proofs.Common.{arith}
use Rattle.std.specs.Prelude.{◌||◌, ◌==◌}
use Rattle.std.specs.Int.{is_in_range}
use Rattle.rule_reader.specs.ReadWords.{leading, word, after_word}
use Rattle.rule_reader.specs.TextBytes.{begins, is_letter_byte, is_word_byte}
use Rattle.rule_reader.specs.laws.ReadRuns.{leading_take, after_drop}

or_more : (d u l n : Bool) → (u || l) ≡ true → (((d || u) || l) || n) ≡ true
or_more true u l n h = refl
or_more false true l n h = refl
or_more false false true n h = refl
or_more false false false n h = absurd cc

pub letter_is_word : (b : ℕ) → is_letter_byte b ≡ true → is_word_byte b ≡ true
letter_is_word b h = or_more (is_in_range 48 57 b) (is_in_range 65 90 b) (is_in_range 97 122 b) (b == 95) h

-- a word is here: what begins with a letter is one
pub word_there : (bytes : List ℕ) → begins is_letter_byte bytes ≡ true
    → (take (length (leading is_word_byte bytes)) bytes ≡ word bytes) × (drop (length (leading is_word_byte bytes)) bytes
    ≡ after_word bytes) × (0 < length (leading is_word_byte bytes))
word_there [] h = absurd cc
word_there (b ∷ bytes) h =
    let w : is_word_byte b ≡ true = letter_is_word b h in
    let some : 0 < length (cond true (b ∷ leading is_word_byte bytes) []) = omega arith in (
      sym (leading_take is_word_byte (b ∷ bytes)) ∙ sym (ap (λ t. cond t (leading is_word_byte (b ∷ bytes)) []) h),
      sym (after_drop is_word_byte (b ∷ bytes)),
      subst (λ t. 0 < length (cond t (b ∷ leading is_word_byte bytes) [])) (sym w) some,
    )

-- the first byte, as the code reads it
pub begins_at : (test : ℕ → Bool) (bytes : List ℕ) → 0 < length bytes → begins test bytes ≡ test (get_or bytes 0 0)
begins_at test [] h = absurd (omega arith)
begins_at test (b ∷ bytes) h = refl
