-- The marks of a text, one more byte at a time.
use Rattle.std.proofs.Common.{◌≡◌, ◌≢◌, ℕ, suc, ◌+◌, ◌-◌, ◌<◌, ◌≤◌, true, false, List, [], ◌∷◌, ◌++◌, length, get_or, take, drop, refl}
use Rattle.std.proofs.Common.{ap, sym, ◌∙◌, arith, ne_eqb, add-one, append_assoc}
use Rattle.std.proofs.Math.Seq.{take-suc, drop-cons}
use Rattle.std.proofs.lemmas.List.{get_or-drop, length-drop}
use Rattle.rule_explain.specs.Places.{is_line_feed}
use Rattle.import_origins.specs.Included.{Mark, line_marks, marks_from, marks_of}

-- the line so far with one more byte
line_grows : (text : List ℕ) (start i : ℕ) → start ≤ i → i < length text
    → take (i + 1 - start) (drop start text) ≡ take (i - start) (drop start text) ++ get_or text i 0 ∷ []
line_grows text start i after within =
    let more : i + 1 - start ≡ suc (i - start) = omega arith in
    let back : start + (i - start) ≡ i = omega arith in
    let inside : i - start < length (drop start text) = omega (arith, length-drop start text) in
    ap (λ n. take n (drop start text)) more
    ∙ (take-suc (drop start text) (i - start) 0 inside
    ∙ ap (λ b. take (i - start) (drop start text) ++ b ∷ []) (get_or-drop start text (i - start) 0 ∙ ap (λ k. get_or text k 0) back))

marks_at_feed : (before : ℕ) (line : List ℕ) (b : ℕ) (bytes : List ℕ) → b ≡ 10
    → marks_from before line (b ∷ bytes) ≡ line_marks (suc before) line ++ marks_from (suc before) [] bytes
marks_at_feed before line b bytes e = rw e refl

marks_at_other : (before : ℕ) (line : List ℕ) (b : ℕ) (bytes : List ℕ) → b ≢ 10
    → marks_from before line (b ∷ bytes) ≡ marks_from (suc before) (line ++ b ∷ []) bytes
marks_at_other before line b bytes ne =
    let other : is_line_feed b ≡ false = ne_eqb b 10 ne in
    rw other refl

-- a line feed ends the line, and the mark of the line was added
pub marks_after_feed : (text : List ℕ) (start next i : ℕ) (old new : List Mark) → i < length text → get_or text i 0 ≡ 10 → next ≡ i + 1
    → new ≡ old ++ line_marks (i + 1) (take (i - start) (drop start text))
    → old ++ marks_from i (take (i - start) (drop start text)) (drop i text) ≡ marks_of text
    → new ++ marks_from (i + 1) (take (i + 1 - next) (drop next text)) (drop (i + 1) text) ≡ marks_of text
marks_after_feed text start next i old new within feed at_next added so_far =
    let none : i + 1 - next ≡ 0 = omega arith in
    let one : i + 1 ≡ suc i = add-one i in
    let step : marks_from i (take (i - start) (drop start text)) (drop i text)
    ≡ line_marks (suc i) (take (i - start) (drop start text)) ++ marks_from (suc i) [] (drop (suc i) text) =
    ap (marks_from i (take (i - start) (drop start text))) (drop-cons text i 0 within)
    ∙ marks_at_feed i (take (i - start) (drop start text)) (get_or text i 0) (drop (suc i) text) feed in
    rw (none, added, one)
    (append_assoc old (line_marks (suc i) (take (i - start) (drop start text))) (marks_from (suc i) [] (drop (suc i) text))
    ∙ (ap (λ ms. old ++ ms) (sym step) ∙ so_far))

-- another byte is of the line
pub marks_after_other : (text : List ℕ) (start next i : ℕ) (old new : List Mark) → start ≤ i → i < length text → get_or text i 0 ≢ 10
    → next ≡ start → new ≡ old → old ++ marks_from i (take (i - start) (drop start text)) (drop i text) ≡ marks_of text
    → new ++ marks_from (i + 1) (take (i + 1 - next) (drop next text)) (drop (i + 1) text) ≡ marks_of text
marks_after_other text start next i old new after within other same none so_far =
    let one : i + 1 ≡ suc i = add-one i in
    let step : marks_from i (take (i - start) (drop start text)) (drop i text)
    ≡ marks_from (suc i) (take (i - start) (drop start text) ++ get_or text i 0 ∷ []) (drop (suc i) text) =
    ap (marks_from i (take (i - start) (drop start text))) (drop-cons text i 0 within)
    ∙ marks_at_other i (take (i - start) (drop start text)) (get_or text i 0) (drop (suc i) text) other in
    rw (none, same, line_grows text start i after within, one) (ap (λ ms. old ++ ms) (sym step) ∙ so_far)
