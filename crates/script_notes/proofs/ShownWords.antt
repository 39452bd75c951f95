-- The word that isn't understood is one of the line's, and is shown where it is.
use Rattle.std.proofs.Common.{◌≡◌, ◌⊎◌, ℕ, zero, suc, ◌+◌, ◌-◌, ◌<◌, ◌≤◌, ◌==◌, ◌||◌, Bool, true, false, cond, ◌&&◌, nat_lt}
use Rattle.std.proofs.Common.{List, [], ◌∷◌, ◌++◌, All, length, drop, bytes_eq, codes, Option, Some, None, slice_get, refl, sym, ap, ◌∙◌}
use Rattle.std.proofs.Common.{arith, inl, inr, length-drop}
use Rattle.std.specs.List.{before_first, position_or_len, prefix_len}
use Rattle.std.proofs.lemmas.Bool.{cases_lt, eq-eqb, false≢true, ltb-true, ne_eqb}
use Rattle.std.proofs.lemmas.List.{drop_all, drop-drop}
use Rattle.std.proofs.lemmas.List.Elements.{All-from_get_or}
use Rattle.std.proofs.lemmas.List.Folds.{list_any_at}
use Rattle.script_notes.specs.Forms.{Misfit, misfit_at, misfit_of, asks_perms, is_no_perms, odd_word, odd_last, is_no_session}
use Rattle.script_notes.specs.Forms.{is_session_word, why_form, why_words, form_of, next_word, why_keep, change_forms, no_change}
use Rattle.script_notes.specs.Forms.{why_step, why_step_by, no_command, step_forms, run_forms, test_forms, has_quote}
use Rattle.script_notes.specs.Forms.{found_by_blanks, why_test, why_quoted, why, after_words, after_word, word_place}
use Rattle.script_notes.specs.declared.line.Script.{Script}
use Rattle.script_notes.specs.declared.line.Script.TheVariants.{Run, Steps, Test}
use Rattle.script_notes.specs.declared.line.Says.TheVariants.{Nothing, NoCommand}
use Rattle.script_notes.specs.ScriptLines.{says, says_in}
use Rattle.test_script.specs.TestScript.{behind_first, expect_kind, first_word, from_word, quote, quoted_kind, quoted_words, test_kind}
use Rattle.test_script.specs.laws.PlainWords.{plain_words}
use Rattle.trace_script.specs.Script.{ignored, is_blank, is_comment, line_kind, words_of}
use Rattle.trace_script.specs.laws.LineWords.{step_at_end, step_at_word}
use Rattle.trace_steps.specs.StepScript.{step_kind}

-- of two notes, each within where it is the one
word_by : (n : ℕ) (b : Bool) (x y : Misfit) → (b ≡ true → x.word < n) → (b ≡ false → y.word < n) → (cond b x y).word < n
word_by n true x y h k = h refl
word_by n false x y h k = k refl

and_right : (a b : Bool) → (a && b) ≡ true → b ≡ true
and_right true b e = e
and_right false b e = absurd (false≢true e)

no_session_within : (words : List (List ℕ)) → is_no_session (slice_get words 1) ≡ true → 1 < length words
no_session_within [] e = absurd (false≢true e)
no_session_within (word ∷ []) e = absurd (false≢true e)
no_session_within (word ∷ other ∷ words) e = omega arith

module _ (form : List ℕ) (of_form words : List (List ℕ)) (some : 0 < length words) where
  before : length words - 1 < length words
  before = omega arith

  last_within : (odd_last form words).word < length words
  last_within =
      word_by (length words) (asks_perms form && is_no_perms (slice_get words (length words - 1)))
      (misfit_at (length words - 1) (codes "the last word is no permissions: " ++ form))
      (misfit_at (length words - 1) (codes "the last word is no number below 2^64: " ++ form)) (λ e. before) (λ e. before)

  odd_within : (odd_word form of_form words).word < length words
  odd_within =
      word_by (length words) (is_session_word (slice_get of_form 1) && is_no_session (slice_get words 1))
      (misfit_at 1 (codes "the second word is no session, which is a digit from 1 to 9: " ++ form)) (odd_last form words)
      (λ e. no_session_within words (and_right (is_session_word (slice_get of_form 1)) (is_no_session (slice_get words 1)) e))
      (λ e. last_within)

  long_within : (cond (nat_lt (length of_form) (length words)) (misfit_at (length of_form) (codes "too many words: " ++ form))
      (odd_word form of_form words)).word < length words
  long_within =
      word_by (length words) (nat_lt (length of_form) (length words)) (misfit_at (length of_form) (codes "too many words: " ++ form))
      (odd_word form of_form words) (λ e. ltb-true (length of_form) (length words) e) (λ e. odd_within)

  misfit_within : (misfit_of form of_form words).word < length words
  misfit_within =
      word_by (length words) (nat_lt (length words) (length of_form)) (misfit_at 0 (codes "too few words: " ++ form))
      (cond (nat_lt (length of_form) (length words)) (misfit_at (length of_form) (codes "too many words: " ++ form))
      (odd_word form of_form words)) (λ e. some) (λ e. long_within)

form_within : (unknown : List ℕ) (form : Option (List ℕ)) (words : List (List ℕ)) → 0 < length words →
    (why_form unknown form words).word < length words
form_within unknown None words some = some
form_within unknown (Some form) words some = misfit_within form (words_of form) words some

words_within : (unknown : List ℕ) (forms words : List (List ℕ)) → 0 < length words → (why_words unknown forms words).word < length words
words_within unknown forms [] some = some
words_within unknown forms (word ∷ words) some = form_within unknown (form_of forms word) (word ∷ words) some

-- ---- after `keep`

kept_within : (words : List (List ℕ)) → (why_keep words).word < 1 + length words
kept_within [] = omega arith
kept_within (word ∷ words) =
    let here : (why_words no_change change_forms (word ∷ words)).word < length (word ∷ words) =
    words_within no_change change_forms (word ∷ words) (omega arith) in
    let next : (why_keep (word ∷ words)).word ≡ (why_words no_change change_forms (word ∷ words)).word + 1 =
    ap (λ empty. (cond empty (misfit_at 0 (codes "too few words: keep CHANGE.."))
    (next_word (why_words no_change change_forms (word ∷ words)))).word) (ne_eqb (length (word ∷ words)) 0 (λ e. omega arith)) in
    omega (arith, here, next)

step_within : (words : List (List ℕ)) → 0 < length words → (why_step words).word < length words
step_within [] some = absurd (omega arith)
step_within (word ∷ words) some = by (bytes_eq (codes "keep") word)
  where
    by : (keeps : Bool) → (why_step_by (cond keeps (Some words) None) (word ∷ words)).word < length (word ∷ words)
    by true =
        let here : (why_keep words).word < 1 + length words = kept_within words in
        omega (arith, here)
    by false = words_within no_command step_forms (word ∷ words) some

-- ---- in a test

-- a line without a quote, by each of its bytes
no_quotes : (line : List ℕ) → has_quote line ≡ false → All (λ b. b ≡ quote → ⊥) line
no_quotes line none = All-from_get_or (λ b. b ≡ quote → ⊥) line 0 λ i within e.
    false≢true (sym none ∙ list_any_at (λ b. b == quote) line i 0 within (ap (λ b. b == quote) e))

asked_within : (line : List ℕ) → 0 < length (words_of line) →
    (found_by_blanks line (why_quoted (quoted_words line))).word < length (words_of line)
asked_within line some = by (has_quote line) refl
  where
    by : (quotes : Bool) → has_quote line ≡ quotes → cond quotes 0 (why_quoted (quoted_words line)).word < length (words_of line)
    by true e = some
    by false e =
        let here : (why_quoted (Some (words_of line))).word < length (words_of line) =
        words_within no_command test_forms (words_of line) some in
        let same : (why_quoted (quoted_words line)).word ≡ (why_quoted (Some (words_of line))).word =
        ap (λ words. (why_quoted words).word) (plain_words (length line) line (omega arith) (no_quotes line e)) in
        omega (arith, here, same)

test_within : (line : List ℕ) → 0 < length (words_of line) → (why_test line).word < length (words_of line)
test_within line some =
    word_by (length (words_of line)) (bytes_eq (codes "expect") (first_word line)) (misfit_at 0 (codes "too few words: expect ANSWER.."))
    (found_by_blanks line (why_quoted (quoted_words line))) (λ e. some) (λ e. asked_within line some)

-- ---- the line

abbrev IsWordOf : Script → List ℕ → Type 0
IsWordOf script line = (why script line).word < length (words_of line)

within : (script : Script) (line : List ℕ) → 0 < length (words_of line) → IsWordOf script line
within Run line some = words_within no_command run_forms (words_of line) some
within Steps line some = step_within (words_of line) some
within Test line some = test_within line some

-- a line that is no command has a word
nothing≢no_command : Nothing ≡ NoCommand → ⊥
nothing≢no_command e = cc

run_word : (words : List (List ℕ)) → says (line_kind words) ≡ NoCommand → 0 < length words
run_word [] e = cc
run_word (word ∷ words) e = omega arith

step_word : (words : List (List ℕ)) → says (step_kind words) ≡ NoCommand → 0 < length words
step_word [] e = cc
step_word (word ∷ words) e = omega arith

test_word : (number : ℕ) (line : List ℕ) → says (test_kind number line) ≡ NoCommand → 0 < length (words_of line)
test_word number line e = elim (cases_lt 0 (length front)) [ inl some ↦ has some | inr none ↦ absurd (has_none none) ]
  where
    front : List ℕ
    front = first_word line

    left : List ℕ
    left = drop (position_or_len is_blank (from_word line)) (from_word line)

    has : 0 < length front → 0 < length (words_of line)
    has some = omega (arith, ap length (step_at_word line front left refl refl some))

    has_none : length front ≤ 0 → ⊥
    has_none none =
        let read =
        cond (bytes_eq (codes "expect") front) (expect_kind number (behind_first line)) (quoted_kind number (quoted_words line)) in
        let passed : (length front == 0) ≡ true = eq-eqb (length front) 0 (omega arith) in
        nothing≢no_command (sym (ap (λ empty. says (cond (empty || is_comment front) ignored read)) passed) ∙ e)

pub misfit_is_of_a_word : (script : Script) (number : ℕ) (line : List ℕ) → says_in script number line ≡ NoCommand →
    IsWordOf script line
misfit_is_of_a_word Run number line e = within Run line (run_word (words_of line) e)
misfit_is_of_a_word Steps number line e = within Steps line (step_word (words_of line) e)
misfit_is_of_a_word Test number line e = within Test line (test_word number line e)

-- ---- places

-- what is left of a line from one of its words on
tail_of : (word : ℕ) (line : List ℕ) → (n : ℕ) × (after_words word line ≡ drop n line)
tail_of zero line = (0, refl)
tail_of (suc word) line =
    let front = position_or_len is_blank line in
    let blanks = prefix_len is_blank (drop front line) in
    let later = tail_of word (after_word line) in (
      front + blanks + later.0,
      later.1 ∙ ap (drop later.0) (drop-drop blanks front line) ∙ drop-drop later.0 (front + blanks) line,
    )

drop_to : (n : ℕ) (line : List ℕ) → drop (length line - length (drop n line)) line ≡ drop n line
drop_to n line = by (cases_lt n (length line))
  where
    by : (n < length line) ⊎ (length line ≤ n) → drop (length line - length (drop n line)) line ≡ drop n line
    by (inl h) = ap (λ k. drop k line) (omega (arith, length-drop n line))
    by (inr h) = drop_all (length line - length (drop n line)) line (omega (arith, length-drop n line)) ∙ sym (drop_all n line h)

from_place : (word : ℕ) (line : List ℕ) → drop (word_place word line) line ≡ after_words word (from_word line)
from_place word line =
    let later = tail_of word (from_word line) in
    let is : after_words word (from_word line) ≡ drop (prefix_len is_blank line + later.0) line =
    later.1 ∙ drop-drop later.0 (prefix_len is_blank line) line in
    ap (λ rest. drop (length line - length rest) line) is ∙ drop_to (prefix_len is_blank line + later.0) line ∙ sym is

-- the first word of a line, and those after it
module _ (line : List ℕ) where
  abbrev rest : List ℕ
  rest = from_word line

  abbrev front : List ℕ
  front = before_first is_blank rest

  abbrev left : List ℕ
  left = drop (position_or_len is_blank rest) rest

  first_at : 0 < length front → slice_get (words_of line) 0 ≡ Some front
  first_at some = ap (λ words. slice_get words 0) (step_at_word line front left refl refl some)

  later_at : (word : ℕ) → 0 < length front → suc word < length (words_of line) →
      (word < length (words_of left) →
      slice_get (words_of left) word ≡ Some (before_first is_blank (after_words word (from_word left)))) →
      slice_get (words_of line) (suc word) ≡ Some (before_first is_blank (after_words (suc word) rest))
  later_at word some within later =
      let first = step_at_word line front left refl refl some in
      ap (λ words. slice_get words (suc word)) first ∙ later (omega (arith, ap length first))

  none_at : (word : ℕ) → length front ≤ 0 → word < length (words_of line) → ⊥
  none_at word none within = omega (arith, ap length (step_at_end line front left refl refl (omega arith)).0)

word_at : (word : ℕ) (line : List ℕ) → word < length (words_of line) →
    slice_get (words_of line) word ≡ Some (before_first is_blank (after_words word (from_word line)))
word_at zero line within = elim (cases_lt 0 (length (front line))) [
  | inl some ↦ first_at line some
  | inr none ↦ absurd (none_at line zero none within)
]
word_at (suc word) line within = elim (cases_lt 0 (length (front line))) [
  | inl some ↦ later_at line word some within (word_at word (left line))
  | inr none ↦ absurd (none_at line (suc word) none within)
]

pub word_is_there : (word : ℕ) (line : List ℕ) → word < length (words_of line) →
    slice_get (words_of line) word ≡ Some (before_first is_blank (drop (word_place word line) line))
word_is_there word line within =
    word_at word line within ∙ ap (λ rest. Some (before_first is_blank rest)) (sym (from_place word line))
