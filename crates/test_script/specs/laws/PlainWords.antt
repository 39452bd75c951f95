-- Lines without quotes: their words are those that blanks separate.
use Rattle.std.proofs.Common.{◌≡◌, ◌⊎◌, ℕ, ◌<◌, ◌≤◌, not, List, [], ◌∷◌, All, length, drop, get_or, Some, refl, sym, ap, ◌∙◌}
use Rattle.std.proofs.Common.{arith, suc, zero, inl, inr, length-drop}
use Rattle.std.specs.List.{before_first, position_or_len, prefix_len}
use Rattle.std.proofs.lemmas.Bool.{cases_lt}
use Rattle.std.proofs.lemmas.List.{drop_all, length-take}
use Rattle.std.proofs.lemmas.List.Sums.{prefix_len-le-length}
use Rattle.std.proofs.lemmas.List.Elements.{All-drop}
use Rattle.trace_script.specs.Script.{is_blank, words_of}
use Rattle.trace_script.specs.laws.LineWords.{step_at_end, step_at_word}
use Rattle.test_script.specs.TestScript.{from_word, quote, quoted_words, with_word}
use Rattle.test_script.specs.laws.WordReads.{at_word, first_bare, skips_blanks, word_is_some}

abbrev pub HasNoQuote : List ℕ → Type 0
HasNoQuote line = All (λ b. b ≡ quote → ⊥) line

first_is_none : (line : List ℕ) → 0 < length line → HasNoQuote line → get_or line 0 0 ≡ quote → ⊥
first_is_none [] some free = absurd (omega arith)
first_is_none (b ∷ line) some free = free 0 0 (omega arith)

-- the first word of a line without quotes, and those after it
module _ (line : List ℕ) (free : HasNoQuote line) where
  abbrev rest : List ℕ
  rest = from_word line

  abbrev pub after : List ℕ
  after = drop (position_or_len is_blank rest) rest

  no_quote_after : HasNoQuote after
  no_quote_after = All-drop (λ b. b ≡ quote → ⊥) (position_or_len is_blank rest) rest
      (All-drop (λ b. b ≡ quote → ⊥) (prefix_len is_blank line) line free)

  -- the first word is not empty
  pub first_is_some : 0 < length rest → 0 < length (before_first is_blank rest)
  first_is_some h =
      omega (
        arith,
        word_is_some rest h (at_word line),
        length-take (position_or_len is_blank rest) rest,
        prefix_len-le-length (λ b. not (is_blank b)) rest,
      )

  is_shorter : 0 < length rest → length after < length line
  is_shorter h =
      omega (
        arith,
        word_is_some rest h (at_word line),
        length-drop (position_or_len is_blank rest) rest,
        length-drop (prefix_len is_blank line) line,
      )

  pub first_of : 0 < length rest → (quoted_words line ≡ with_word (before_first is_blank rest) (quoted_words after))
      × (words_of line ≡ before_first is_blank rest ∷ words_of after)
  first_of h =
      let no_quote = All-drop (λ b. b ≡ quote → ⊥) (prefix_len is_blank line) line free in
      let long = first_is_some h in (
        skips_blanks line ∙ first_bare rest h (at_word line) (first_is_none rest h no_quote),
        step_at_word line (before_first is_blank rest) after refl refl long,
      )

  pub none_of : length rest ≤ 0 → (quoted_words line ≡ Some []) × (words_of line ≡ [])
  none_of h =
      let gone : rest ≡ [] = drop_all 0 rest h in
      let empty : length (before_first is_blank rest) ≡ 0 = ap (λ r. length (before_first is_blank r)) gone in
      (skips_blanks line ∙ ap quoted_words gone, (step_at_end line (before_first is_blank rest) after refl refl empty).0)

pub plain_words : (most : ℕ) (line : List ℕ) → length line ≤ most → HasNoQuote line → quoted_words line ≡ Some (words_of line)
plain_words zero line short free =
    let none = none_of line free (omega (arith, length-drop (prefix_len is_blank line) line)) in
    none.0 ∙ ap Some (sym none.1)
plain_words (suc most) line short free = by (plain_words most) (cases_lt 0 (length (from_word line)))
  where
    by : ((line : List ℕ) → length line ≤ most → HasNoQuote line → quoted_words line ≡ Some (words_of line)) →
        (0 < length (from_word line)) ⊎ (length (from_word line) ≤ 0)
        → quoted_words line ≡ Some (words_of line)
    by later (inl h) =
        let first = first_of line free h in
        let shorter = is_shorter line free h in
        first.0 ∙ ap (with_word (before_first is_blank (from_word line)))
        (later (after line free) (omega arith) (no_quote_after line free)) ∙ ap Some (sym first.1)
    by later (inr h) =
        let none = none_of line free h in
        none.0 ∙ ap Some (sym none.1)
