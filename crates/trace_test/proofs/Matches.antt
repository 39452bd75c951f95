-- Answers that are expected, and others.
use Rattle.std.proofs.Common.{◌≡◌, ℕ, ◌==◌, ◌&&◌, ◌||◌, Bool, true, false, cond, List, [], ◌∷◌, ◌++◌, refl, sym, ap, ◌∙◌, eq-eqb}
use Rattle.std.specs.Prelude.{codes}
use Rattle.std.proofs.lemmas.Bool.{eqb-true}
use Rattle.trace_script.specs.Script.{is_blank}
use Rattle.trace_test.specs.Expectations.{goes_on, is_answer, is_dots}
use Rattle.trace_test.specs.Laws.{is_open}

-- an answer and a text that begin with the same byte
same_byte : (b : ℕ) (expected got : List ℕ) → goes_on expected got ≡ true → goes_on (b ∷ expected) (b ∷ got) ≡ true
same_byte b expected got rest = by (is_blank b) refl (is_dots expected)
  where
    equal : (b == b) && goes_on expected got ≡ true
    equal = ap (λ x. x && goes_on expected got) (eq-eqb b b refl) ∙ rest

    by : (blank : Bool) → is_blank b ≡ blank → (dots : Bool) → cond (blank && dots) (is_blank b) ((b == b) && goes_on expected got) ≡ true
    by true e true = e
    by true e false = equal
    by false e dots = equal

own_text : (text : List ℕ) → goes_on text text ≡ true
own_text [] = refl
own_text (b ∷ text) = same_byte b text text (own_text text)

own_front : (text : List ℕ) → goes_on (text ++ codes " ...") text ≡ true
own_front [] = refl
own_front (b ∷ text) = same_byte b (text ++ codes " ...") text (own_front text)

unless_dots : (b x : Bool) → x ≡ true → cond b true x ≡ true
unless_dots true x e = refl
unless_dots false x e = e

pub own_answer : (text : List ℕ) → is_answer text text ≡ true
own_answer text = unless_dots (is_dots text) (goes_on text text) (own_text text)

pub front_answer : (text : List ℕ) → is_answer (text ++ codes " ...") text ≡ true
front_answer text = unless_dots (is_dots (text ++ codes " ...")) (goes_on (text ++ codes " ...") text) (own_front text)

-- a text without a last word `...` expects itself
exactly_it : (expected got : List ℕ) → is_open expected ≡ false → goes_on expected got ≡ true → got ≡ expected
exactly_it [] [] closed e = refl
exactly_it [] (g ∷ got) closed e = cc
exactly_it (b ∷ expected) got closed e =
    by (exactly_it expected) (is_blank b && is_dots expected) (is_open expected) closed refl refl got e
  where
    Later : Type 0
    Later = (got : List ℕ) → is_open expected ≡ false → goes_on expected got ≡ true → got ≡ expected

    heads : Later → (g : ℕ) (rest : List ℕ) (same : Bool) → (g == b) ≡ same → is_open expected ≡ false →
        same && goes_on expected rest ≡ true → g ∷ rest ≡ b ∷ expected
    heads later g rest true is closed e = ap (λ x. x ∷ rest) (eqb-true g b is) ∙ ap (λ l. b ∷ l) (later rest closed e)
    heads later g rest false is closed e = cc

    by : Later → (here more : Bool) → here || more ≡ false → is_blank b && is_dots expected ≡ here → is_open expected ≡ more →
        (got : List ℕ) → goes_on (b ∷ expected) got ≡ true → got ≡ b ∷ expected
    by later true more closed e f got h = cc
    by later false true closed e f got h = cc
    by later false false closed e f [] h = cc (sym h ∙ e)
    by later false false closed e f (g ∷ rest) h =
        heads later g rest (g == b) refl f (sym (ap (λ x. cond x (is_blank g) ((g == b) && goes_on expected rest)) e) ∙ h)

pub no_other : (expected got : List ℕ) → is_dots expected ≡ false → is_open expected ≡ false → is_answer expected got ≡ true →
    got ≡ expected
no_other expected got plain closed e =
    exactly_it expected got closed (sym (ap (λ b. cond b true (goes_on expected got)) plain) ∙ e)
