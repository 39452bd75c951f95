-- The lines of a text, put together again.
use Rattle.std.proofs.Common.{◌≡◌, ◌⊎◌, inl, inr, ℕ, ◌==◌, Bool, true, false, cond, List, [], ◌∷◌, ◌++◌, length, refl, ap, ◌∙◌, sym}
use Rattle.std.proofs.Common.{length-append, arith}
use Rattle.std.proofs.lemmas.Bool.{eqb-true}
use Rattle.trace_script.specs.RunOutput.{text_of_lines}
use Rattle.trace_script.specs.Script.{line_feed, lines_of, onto_first_line}

abbrev IsAgain : List (List ℕ) → List ℕ → Type 0
IsAgain lines text = (text_of_lines lines ≡ text) ⊎ (text_of_lines lines ≡ text ++ line_feed ∷ [])

onto_again : (b : ℕ) (lines : List (List ℕ)) (text : List ℕ) → IsAgain lines text → IsAgain (onto_first_line b lines) (b ∷ text)
onto_again b [] text (inl e) = inr (ap (λ t. b ∷ (t ++ line_feed ∷ [])) e)
onto_again b [] text (inr e) = absurd (omega (arith, ap length e, length-append text (line_feed ∷ [])))
onto_again b (line ∷ lines) text (inl e) = inl (ap (λ t. b ∷ t) e)
onto_again b (line ∷ lines) text (inr e) = inr (ap (λ t. b ∷ t) e)

fed_again : (b : ℕ) (lines : List (List ℕ)) (text : List ℕ) → b ≡ line_feed → IsAgain lines text → IsAgain ([] ∷ lines) (b ∷ text)
fed_again b lines text f (inl e) = inl (ap (λ t. line_feed ∷ t) e ∙ ap (λ x. x ∷ text) (sym f))
fed_again b lines text f (inr e) = inr (ap (λ t. line_feed ∷ t) e ∙ ap (λ x. x ∷ (text ++ line_feed ∷ [])) (sym f))

pub lines_again : (text : List ℕ) → (text_of_lines (lines_of text) ≡ text) ⊎ (text_of_lines (lines_of text) ≡ text ++ line_feed ∷ [])
lines_again [] = inl refl
lines_again (b ∷ text) = by (lines_again text) (b == line_feed) refl
  where
    by : IsAgain (lines_of text) text → (fed : Bool) → (b == line_feed) ≡ fed →
        IsAgain (cond fed ([] ∷ lines_of text) (onto_first_line b (lines_of text))) (b ∷ text)
    by again true e = fed_again b (lines_of text) text (eqb-true b 10 e) again
    by again false e = onto_again b (lines_of text) text again
