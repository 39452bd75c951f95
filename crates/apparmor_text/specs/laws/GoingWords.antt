-- Blanks and words read on, and what they take is shorter than what was left.
use Rattle.std.proofs.Common.{◌≡◌, ℕ, ◌<◌, ◌-◌, Bool, true, false, cond, List, [], ◌∷◌, ◌++◌, length, take, drop}
use Rattle.std.proofs.Common.{Ok, refl, sym, ap, subst, ◌∙◌, inl, inr, ◌==◌, arith}
use Rattle.std.specs.Prelude.{nat_eq}
use Rattle.std.specs.List.{starts_with}
use Rattle.std.proofs.lemmas.Bool.{eqb-true}
use Rattle.std.proofs.lemmas.List.{length-append, length-take, length-drop}
use Rattle.std.proofs.Math.Seq.{take-append_seam}
use Rattle.rule_reader.specs.TextBytes.{begins, opens_blank, is_quote}
use Rattle.apparmor_text.specs.declared.part.PartKind.{PartKind}
use Rattle.apparmor_text.specs.declared.part.PartKind.TheVariants as parts
use Rattle.apparmor_words.specs.Blanks.{is_blank}
use Rattle.apparmor_text.specs.Readings.{Reading, taken, taken_to}
use Rattle.apparmor_words.specs.Words.{blank_at, word_end, is_path, is_colon}
use Rattle.apparmor_text.specs.WordParts.{blank_part, gap_part, word_part, path_part, literal_part, name_part}
use Rattle.apparmor_text.specs.WordParts.{within_quotes, begins_no_name}
use Rattle.apparmor_words.specs.laws.Shorter.{blank_before, word_shorter, opened_shorter}
use Rattle.apparmor_words.specs.laws.Steps.{bind_ok, chosen, ok_is, not_ok}
use Rattle.apparmor_text.specs.laws.Progress.{Goes, going_on, going_taken, going_shortens}

-- a front part is what comes before the rest
pub front_taken : (front rest : List ℕ) → take (length (front ++ rest) - length rest) (front ++ rest) ≡ front
front_taken front rest =
    let n : length (front ++ rest) - length rest ≡ length front = (let a = length-append front rest in omega (arith, a)) in
    ap (λ k. take k (front ++ rest)) n ∙ take-append_seam front rest

-- ---- parts

-- from a reading to a later one with less left
pub record Shortens (s t : Reading) : Type 0 where
  pub goes : Goes s t
  pub less : length t.rest < length s.rest

pub shorter_on : (s t u : Reading) → Shortens s t → Goes t u → Shortens s u
shorter_on s t u h g =
    let a = going_shortens t u g in
    let b = h.less in
    record { goes = going_on s t u h.goes g; less = omega (arith, a, b) }

pub on_shorter : (s t u : Reading) → Goes s t → Shortens t u → Shortens s u
on_shorter s t u h g =
    let a = going_shortens s t h in
    let b = g.less in
    record { goes = going_on s t u h g.goes; less = omega (arith, a, b) }

taken_rest : (kind : PartKind) (n : ℕ) (s : Reading) → length (taken kind n s).rest ≡ length s.rest - n
taken_rest kind n s = at (length (take n s.rest) == 0) refl
  where
    at : (b : Bool) → (length (take n s.rest) == 0) ≡ b →
        length (cond b s (record { parts = s.parts ++ (record { kind = kind; bytes = take n s.rest } ∷ []); rest = drop n s.rest })).rest
        ≡ length s.rest - n
    at true e = let z = eqb-true (length (take n s.rest)) 0 e in let l = length-take n s.rest in omega (arith, z, l)
    at false e = length-drop n s.rest

pub shortens_taken : (kind : PartKind) (n : ℕ) (s : Reading) → (kind ≡ parts.Blank → is_blank false (take n s.rest) ≡ true) → 0 < n →
    0 < length s.rest → Shortens s (taken kind n s)
shortens_taken kind n s h some there =
    let r = taken_rest kind n s in
    record { goes = going_taken kind n s h; less = omega (arith, r, some, there) }

pub shortens_to : (kind : PartKind) (rest : List ℕ) (s : Reading) →
    (kind ≡ parts.Blank → is_blank false (take (length s.rest - length rest) s.rest) ≡ true) → length rest < length s.rest →
    Shortens s (taken_to kind rest s)
shortens_to kind rest s h less = shortens_taken kind (length s.rest - length rest) s h (omega (arith, less)) (omega (arith, less))

blank_to : (s : Reading) (rest : List ℕ) → blank_at false s.rest ≡ Ok rest → is_blank false (take (length s.rest - length rest) s.rest)
    ≡ true
blank_to s rest e =
    let h = blank_before false s.rest rest e in
    subst (λ (x : List ℕ). is_blank false (take (length x - length rest) x) ≡ true) (sym h.1)
    (ap (is_blank false) (front_taken h.0 rest) ∙ h.2)

pub blank_goes : (s t : Reading) → blank_part s ≡ Ok t → Goes s t
blank_goes s t e =
    let p = bind_ok (blank_at false s.rest) (λ rest. Ok (taken_to parts.Blank rest s)) t e in
    subst (λ u. Goes s u) (ok_is (taken_to parts.Blank p.0 s) t p.2) (going_taken parts.Blank (length s.rest - length p.0) s
    (λ _. blank_to s p.0 p.1))

pub gap_goes : (s t : Reading) → gap_part s ≡ Ok t → Goes s t
gap_goes s t e = elim (chosen (begins opens_blank s.rest) _ _ _ e) [ inl h ↦ blank_goes s t h.1 | inr h ↦ absurd (not_ok _ t h.1) ]

-- ---- words

-- a word that is no blank
pub word_shortens : (kind : PartKind) → (kind ≡ parts.Blank → ⊥) → (s t : Reading) → word_part kind s ≡ Ok t → Shortens s t
word_shortens kind other s t e =
    let p = bind_ok (word_end s.rest) (λ rest. Ok (taken_to kind rest s)) t e in
    subst (λ u. Shortens s u) (ok_is (taken_to kind p.0 s) t p.2)
    (shortens_to kind p.0 s (λ b. absurd (other b)) (word_shorter s.rest p.0 p.1))

pub path_shortens : (kind : PartKind) → (kind ≡ parts.Blank → ⊥) → (s t : Reading) → path_part kind s ≡ Ok t → Shortens s t
path_shortens kind other s t e = elim (chosen (is_path s.rest) _ _ _ e) [
  | inl h ↦ word_shortens kind other s t h.1
  | inr h ↦ absurd
      (not_ok _ t h.1)
]

pub name_shortens : (kind : PartKind) → (kind ≡ parts.Blank → ⊥) → (s t : Reading) → name_part kind s ≡ Ok t → Shortens s t
name_shortens kind other s t e =
    elim (chosen (begins is_colon (within_quotes s.rest)) _ _ _ e) [
      | inl h ↦ absurd (not_ok _ t h.1)
      | inr h ↦ elim (chosen (begins is_quote (within_quotes s.rest)) _ _ _ h.1) [
        | inl g ↦ absurd (not_ok _ t g.1)
        | inr g ↦ elim (chosen (begins begins_no_name s.rest) _ _ _ g.1) [
          | inl k ↦ absurd (not_ok _ t k.1)
          | inr k ↦ word_shortens kind other s t k.1
        ]
      ]
    ]

pub literal_goes : (kind : PartKind) → (kind ≡ parts.Blank → ⊥) → (literal : List ℕ) (s t : Reading) → literal_part kind literal s ≡ Ok t →
    Goes s t
literal_goes kind other literal s t e =
    elim (chosen (starts_with nat_eq s.rest literal) _ _ _ e) [
      | inl h ↦ subst (λ u. Goes s u) (ok_is (taken kind (length literal) s) t h.1)
          (going_taken kind (length literal) s (λ b. absurd (other b)))
      | inr h ↦ absurd (not_ok _ t h.1)
    ]

pub blank_shortens : (s t : Reading) → begins opens_blank s.rest ≡ true → blank_part s ≡ Ok t → Shortens s t
blank_shortens s t h e =
    let p = bind_ok (blank_at false s.rest) (λ rest. Ok (taken_to parts.Blank rest s)) t e in
    subst (λ u. Shortens s u) (ok_is (taken_to parts.Blank p.0 s) t p.2) (shortens_to parts.Blank p.0 s (λ _. blank_to s p.0 p.1)
    (opened_shorter s.rest p.0 h p.1))
