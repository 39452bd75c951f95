-- The words of a line, taken one by one from its front.
use Rattle.std.proofs.Common.{◌≡◌, ℕ, ◌+◌, ◌<◌, ◌≤◌, ◌==◌, Bool, true, false, cond, not, List, [], ◌∷◌, ◌++◌, length, take, drop, get_or}
use Rattle.std.proofs.Common.{Option, Some, None, refl, sym, ap, ◌∙◌, append_assoc, append-nil, arith, suc}
use Rattle.std.specs.List.{before_first, position_or_len, prefix_len}
use Rattle.std.proofs.lemmas.Bool.{ne_eqb}
use Rattle.trace_script.specs.Script.{is_blank}
use Rattle.test_script.specs.TestScript.{Place, between, bare, quoted, closed, from_word, quote, quoted_words, with_word, words_from}
use Rattle.test_script.specs.inner.Words.{is_parted}

abbrev Words : Type 0
Words = Option (List (List ℕ))

-- what a byte between words leads to, by whether it is a blank
abbrev between_by : ℕ → List ℕ → Bool → Words
between_by b line blank = cond blank (words_from between line) (cond (b == quote) (words_from (quoted []) line)
    (words_from (bare (b ∷ [])) line))

abbrev bare_by : List ℕ → ℕ → List ℕ → Bool → Words
bare_by word b line blank = cond blank (with_word word (words_from between line)) (words_from (bare (word ++ b ∷ [])) line)

abbrev closed_by : List ℕ → Bool → Words
closed_by line blank = cond blank (words_from between line) None

-- the blanks at the front are passed
pub skips_blanks : (line : List ℕ) → quoted_words line ≡ quoted_words (from_word line)
skips_blanks [] = refl
skips_blanks (b ∷ line) = by (skips_blanks line) (is_blank b) refl
  where
    by : quoted_words line ≡ quoted_words (from_word line) → (blank : Bool) → is_blank b ≡ blank
        → quoted_words (b ∷ line) ≡ quoted_words (drop (cond blank (1 + prefix_len is_blank line) 0) (b ∷ line))
    by rest true e =
        let next : suc (prefix_len is_blank line) ≡ 1 + prefix_len is_blank line = omega arith in
        ap (between_by b line) e ∙ rest ∙ ap (λ k. quoted_words (drop k (b ∷ line))) next
    by rest false e = refl

-- a word without quotes goes to the next blank
pub bare_reads : (word line : List ℕ) → words_from (bare word) line ≡ with_word (word ++ before_first is_blank line)
    (quoted_words (drop (position_or_len is_blank line) line))
bare_reads word [] = ap (λ w. Some (w ∷ [])) (sym (append-nil word))
bare_reads word (b ∷ line) = by (bare_reads (word ++ b ∷ []) line) (is_blank b) refl
  where
    n : ℕ
    n = position_or_len is_blank line

    by : words_from (bare (word ++ b ∷ [])) line ≡ with_word ((word ++ b ∷ []) ++ before_first is_blank line)
        (quoted_words (drop n line)) → (blank : Bool) → is_blank b ≡ blank
        → words_from (bare word) (b ∷ line) ≡ with_word (word ++ take (cond (not blank) (1 + n) 0) (b ∷ line))
        (quoted_words (drop (cond (not blank) (1 + n) 0) (b ∷ line)))
    by rest true e =
        ap (bare_by word b line) e ∙ ap (λ w. with_word w (words_from between line)) (sym (append-nil word)) ∙ ap (with_word (word ++ []))
        (sym (ap (between_by b line) e))
    by rest false e =
        let next : suc n ≡ 1 + n = omega arith in
        ap (bare_by word b line) e ∙ rest ∙ ap (λ w. with_word w (quoted_words (drop n line)))
        (append_assoc word (b ∷ []) (before_first is_blank line))
        ∙ ap (λ k. with_word (word ++ take k (b ∷ line)) (quoted_words (drop k (b ∷ line)))) next

-- after a closing quote
pub closed_parted : (line : List ℕ) → is_parted line ≡ true → words_from closed line ≡ quoted_words line
closed_parted [] e = refl
closed_parted (b ∷ line) e = ap (closed_by line) e ∙ sym (ap (between_by b line) e)

pub closed_badly : (line : List ℕ) → is_parted line ≡ false → words_from closed line ≡ None
closed_badly [] e = cc
closed_badly (b ∷ line) e = ap (closed_by line) e

-- a line that begins with a word
pub first_in_quotes : (line : List ℕ) → 0 < length line → get_or line 0 0 ≡ quote → quoted_words line
    ≡ words_from (quoted []) (drop 1 line)
first_in_quotes [] some e = absurd (omega arith)
first_in_quotes (b ∷ line) some e = ap (λ b. quoted_words (b ∷ line)) e

no_blank : (b : ℕ) (n : ℕ) (blank : Bool) → cond blank (1 + n) 0 ≡ 0 → blank ≡ false
no_blank b n true e = absurd (omega (arith, e))
no_blank b n false e = refl

pub first_bare : (line : List ℕ) → 0 < length line → prefix_len is_blank line ≡ 0 → (get_or line 0 0 ≡ quote → ⊥)
    → quoted_words line ≡ with_word (before_first is_blank line) (quoted_words (drop (position_or_len is_blank line) line))
first_bare [] some at differs = absurd (omega arith)
first_bare (b ∷ line) some at differs =
    let n = position_or_len is_blank line in
    let next : suc n ≡ 1 + n = omega arith in
    let word : is_blank b ≡ false = no_blank b (prefix_len is_blank line) (is_blank b) at in
    ap (between_by b line) word
    ∙ ap (λ ends. cond ends (words_from (quoted []) line) (words_from (bare (b ∷ [])) line)) (ne_eqb b quote differs)
    ∙ bare_reads (b ∷ []) line
    ∙ ap (λ k. with_word (take k (b ∷ line)) (quoted_words (drop k (b ∷ line)))) next
    ∙ ap (λ blank. with_word (take (cond (not blank) (1 + n) 0) (b ∷ line)) (quoted_words (drop (cond (not blank) (1 + n) 0) (b ∷ line))))
    (sym word)

-- there is something before the next blank
pub word_is_some : (line : List ℕ) → 0 < length line → prefix_len is_blank line ≡ 0 → 0 < position_or_len is_blank line
word_is_some [] some at = absurd (omega arith)
word_is_some (b ∷ line) some at =
    let word : is_blank b ≡ false = no_blank b (prefix_len is_blank line) (is_blank b) at in
    let same : position_or_len is_blank (b ∷ line) ≡ 1 + position_or_len is_blank line =
    ap (λ blank. cond (not blank) (1 + position_or_len is_blank line) 0) word in
    omega (arith, same)

-- ---- words that were gathered

abbrev pub with_words : List (List ℕ) → Words → Words
with_words words more = elim more [ None ↦ None | Some later ↦ Some (words ++ later) ]

pub one_more_word : (words : List (List ℕ)) (word : List ℕ) (more : Words) → with_words words (with_word word more)
    ≡ with_words (words ++ word ∷ []) more
one_more_word words word None = refl
one_more_word words word (Some later) = ap Some (sym (append_assoc words (word ∷ []) later))

pub no_words_before : (more : Words) → with_words [] more ≡ more
no_words_before None = refl
no_words_before (Some later) = refl

-- no blank is left in front of the word
pub at_word : (line : List ℕ) → prefix_len is_blank (from_word line) ≡ 0
at_word [] = refl
at_word (b ∷ line) = by (at_word line) (is_blank b) refl
  where
    by : prefix_len is_blank (from_word line) ≡ 0 → (blank : Bool) → is_blank b ≡ blank →
        prefix_len is_blank (drop (cond blank (1 + prefix_len is_blank line) 0) (b ∷ line)) ≡ 0
    by rest true e =
        let next : suc (prefix_len is_blank line) ≡ 1 + prefix_len is_blank line = omega arith in
        ap (λ k. prefix_len is_blank (drop k (b ∷ line))) (sym next) ∙ rest
    by rest false e = ap (λ blank. cond blank (1 + prefix_len is_blank line) 0) e

pub gathered_first : (words : List (List ℕ)) (left line : List ℕ) → words ≡ [] → left ≡ from_word line →
    with_words words (quoted_words left) ≡ quoted_words line
gathered_first words left line e f = ap (λ ws. with_words ws (quoted_words left)) e ∙ no_words_before (quoted_words left)
    ∙ ap quoted_words f ∙ sym (skips_blanks line)

pub gathered_next : (words more : List (List ℕ)) (word left rest next line : List ℕ) → with_words words (quoted_words left)
    ≡ quoted_words line → quoted_words left ≡ with_word word (quoted_words rest)
    → more ≡ words ++ word ∷ [] → next ≡ from_word rest → with_words more (quoted_words next) ≡ quoted_words line
gathered_next words more word left rest next line gathered first e f =
    ap (λ ws. with_words ws (quoted_words next)) e
    ∙ ap (λ l. with_words (words ++ word ∷ []) (quoted_words l)) f
    ∙ ap (with_words (words ++ word ∷ [])) (sym (skips_blanks rest))
    ∙ sym (one_more_word words word (quoted_words rest))
    ∙ ap (with_words words) (sym first)
    ∙ gathered
