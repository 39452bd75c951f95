-- A run of bytes that pass a test, and what follows it.
use Rattle.std.proofs.Common.{◌≡◌, ℕ, ◌≤◌, Bool, true, false, cond, eqb, List, [], ◌∷◌, ◌++◌, length, take, drop, refl, sym, ap, subst}
use Rattle.std.proofs.Common.{◌∙◌, ◌⊎◌, inl, inr, ◌==◌, arith}
use Rattle.std.specs.Prelude.{◌||◌}
use Rattle.std.proofs.lemmas.Bool.{eqb-true, ne_eqb}
use Rattle.rule_reader.specs.ReadWords.{leading, after}
use Rattle.rule_reader.specs.TextBytes.{begins, is_white}

-- each byte passes the test
abbrev pub Passes : (ℕ → Bool) → List ℕ → Type 0
Passes test [] = Unit {0}
Passes test (b ∷ bytes) = (test b ≡ true) × Passes test bytes

pub leading_take : (test : ℕ → Bool) (bytes : List ℕ) → leading test bytes ≡ take (length (leading test bytes)) bytes
leading_take test [] = refl
leading_take test (b ∷ bytes) =
    elim (test b) as (λ t. cond t (b ∷ leading test bytes) [] ≡ take (length (cond t (b ∷ leading test bytes) [])) (b ∷ bytes)) [
      | true ↦ ap (λ (x : List ℕ). b ∷ x) (leading_take test bytes)
      | false ↦ refl
    ]

pub after_drop : (test : ℕ → Bool) (bytes : List ℕ) → after test bytes ≡ drop (length (leading test bytes)) bytes
after_drop test [] = refl
after_drop test (b ∷ bytes) =
    elim (test b) as (λ t. cond t (after test bytes) (b ∷ bytes) ≡ drop (length (cond t (b ∷ leading test bytes) [])) (b ∷ bytes)) [
      | true ↦ after_drop test bytes
      | false ↦ refl
    ]

pub leading_length : (test : ℕ → Bool) (bytes : List ℕ) → length (leading test bytes) ≤ length bytes
leading_length test [] = omega arith
leading_length test (b ∷ bytes) =
    let h = leading_length test bytes in
    elim (test b) as (λ t. length (cond t (b ∷ leading test bytes) []) ≤ length (b ∷ bytes)) [
      | true ↦ omega (arith, h)
      | false ↦ omega arith
    ]

-- a run is cut off at its length
pub ruleset leading_cut = (leading_take, after_drop, leading_length)

pub leading_passes : (test : ℕ → Bool) (bytes : List ℕ) → Passes test (leading test bytes)
leading_passes test [] = tt
leading_passes test (b ∷ bytes) =
    let h = leading_passes test bytes in
    let P : (t : Bool) → test b ≡ t → Passes test (cond t (b ∷ leading test bytes) []) =
    λ t. elim t as (λ t. test b ≡ t → Passes test (cond t (b ∷ leading test bytes) [])) [ true ↦ λ e. (e, h) | false ↦ λ e. tt ] in
    P (test b) refl

pub leading_parts : (test : ℕ → Bool) (bytes : List ℕ) → bytes ≡ leading test bytes ++ after test bytes
leading_parts test [] = refl
leading_parts test (b ∷ bytes) =
    elim (test b) as (λ t. b ∷ bytes ≡ cond t (b ∷ leading test bytes) [] ++ cond t (after test bytes) (b ∷ bytes)) [
      | true ↦ ap (λ (x : List ℕ). b ∷ x) (leading_parts test bytes)
      | false ↦ refl
    ]

pub after_again : (test : ℕ → Bool) (w rest : List ℕ) → Passes test w → begins test rest ≡ false → after test (w ++ rest) ≡ rest
after_again test [] [] h s = refl
after_again test [] (b ∷ rest) h s = ap (λ t. cond t (after test rest) (b ∷ rest)) s
after_again test (b ∷ w) rest h s = ap (λ t. cond t (after test (w ++ rest)) (b ∷ w ++ rest)) h.0 ∙ after_again test w rest h.1 s

pub leading_again : (test : ℕ → Bool) (w rest : List ℕ) → Passes test w → begins test rest ≡ false → leading test (w ++ rest) ≡ w
leading_again test [] [] h s = refl
leading_again test [] (b ∷ rest) h s = ap (λ t. cond t (b ∷ leading test rest) []) s
leading_again test (b ∷ w) rest h s = ap (λ t. cond t (b ∷ leading test (w ++ rest)) []) h.0 ∙ ap (λ (x : List ℕ). b ∷ x)
    (leading_again test w rest h.1 s)

-- ---- bytes that pass one test and not another

-- a byte that passes one test is none that fails it
pub apart : (test : ℕ → Bool) (b k : ℕ) → test b ≡ true → test k ≡ false → eqb b k ≡ false
apart test b k h g = ne_eqb b k (λ e. let same : test b ≡ test k = ap test e in absurd cc)

or_cases : (a b : Bool) → a || b ≡ true → (a ≡ true) ⊎ (b ≡ true)
or_cases true b h = inl refl
or_cases false b h = inr h

one_of : (b : ℕ) → is_white b ≡ true → (b ≡ 32) ⊎ ((b ≡ 9) ⊎ ((b ≡ 10) ⊎ (b ≡ 13)))
one_of b h =
    elim (or_cases (b == 32 || b == 9 || b == 10) (b == 13) h) [
      | inr e ↦ inr (inr (inr (eqb-true b 13 e)))
      | inl h ↦ elim (or_cases (b == 32 || b == 9) (b == 10) h) [
        | inr e ↦ inr (inr (inl (eqb-true b 10 e)))
        | inl h ↦ elim (or_cases (b == 32) (b == 9) h) [
          | inl e ↦ inl (eqb-true b 32 e)
          | inr e ↦ inr (inl (eqb-true b 9 e))
        ]
      ]
    ]

-- white fails a test that the four white bytes fail
pub white_stops : (test : ℕ → Bool) (b : ℕ) → test 32 ≡ false → test 9 ≡ false → test 10 ≡ false → test 13 ≡ false →
    is_white b ≡ true → test b ≡ false
white_stops test b h1 h2 h3 h4 h =
    let P : ℕ → Type 0 = λ x. test x ≡ false in
    elim (one_of b h) [
      | inl e ↦ subst P (sym e) h1
      | inr e ↦ elim e [ inl e ↦ subst P (sym e) h2 | inr e ↦ elim e [ inl e ↦ subst P (sym e) h3 | inr e ↦ subst P (sym e) h4 ] ]
    ]

-- and what passes it is not white
pub not_white : (test : ℕ → Bool) (b : ℕ) → test 32 ≡ false → test 9 ≡ false → test 10 ≡ false → test 13 ≡ false → test b ≡ true →
    is_white b ≡ false
not_white test b h1 h2 h3 h4 h =
    let P : (t : Bool) → is_white b ≡ t → t ≡ false = λ t. elim t as (λ t. is_white b ≡ t → t ≡ false) [
      | true ↦ λ e. let no = white_stops test b h1 h2 h3 h4 e in absurd cc
      | false ↦ λ e. refl
    ] in
    P (is_white b) refl
