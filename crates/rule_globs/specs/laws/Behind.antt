-- What is reached after a pattern, and its live places, by the parts of the pattern.
use Rattle.std.proofs.Common.{◌≡◌, ℕ, ◌+◌, ◌<◌, Bool, true, ◌&&◌, ◌||◌, ◌⊎◌, ◌↔◌, inl, inr, ⊎_elim, List, [], ◌∷◌, ◌++◌, IsTrue, refl, sym}
use Rattle.std.proofs.Common.{ap, ◌∙◌, subst, arith}
use Rattle.std.specs.List.{list_all}
use Rattle.std.proofs.lemmas.List.{append-nil, append_assoc}
use Rattle.std.proofs.lemmas.List.Folds.{list_all-append}
use Rattle.std.proofs.lemmas.Bool.{and_parts, and_from, or_cases, or_left, or_right}
use Rattle.rule_globs.specs.Glob.{Glob, ByteSet, empty, one, run, cat, none, alt, fits, Takes, places, Live}

-- some front part of the bytes is in E, and the pattern matches the rest
abbrev pub Behind : (List ℕ → Type 0) → Glob → List ℕ → Type 0
Behind E g bytes = (front : List ℕ) × (back : List ℕ) × (bytes ≡ front ++ back) × E front × Takes g back

-- some front part of the bytes is in E, and after the rest the place is live
abbrev pub LiveAfter : (List ℕ → Type 0) → Glob → List ℕ → ℕ → Type 0
LiveAfter E g bytes p = (front : List ℕ) × (back : List ℕ) × (bytes ≡ front ++ back) × E front × Live g back p

pub iff_trans : {A B C : Type 0} → A ↔ B → B ↔ C → A ↔ C
iff_trans f g = (λ a. g.0 (f.0 a), λ c. f.1 (g.1 c))

pub iff_sym : {A B : Type 0} → A ↔ B → B ↔ A
iff_sym f = (f.1, f.0)

pub both_empty : (front back : List ℕ) → [] ≡ front ++ back → (front ≡ []) × (back ≡ [])
both_empty [] back e = (refl, sym e)
both_empty (f ∷ front) back e = cc

-- the last of some bytes is of the back part, unless that is empty
pub split_last : (front back x : List ℕ) (c : ℕ) → x ++ (c ∷ []) ≡ front ++ back →
    ((back ≡ []) × (front ≡ x ++ (c ∷ []))) ⊎ ((most : List ℕ) × (back ≡ most ++ (c ∷ [])) × (x ≡ front ++ most))
split_last [] back x c e = inr (x, sym e, refl)
split_last (f ∷ front) back [] c e =
    let e1 : c ≡ f = cc in
    let e2 : [] ≡ front ++ back = cc in
    let both : (front ≡ []) × (back ≡ []) = both_empty front back e2 in
    let e3 : f ∷ front ≡ c ∷ [] = cc (both.0) in
    inl (both.1, e3)
split_last (f ∷ front) back (b ∷ x) c e =
    let e1 : b ≡ f = cc in
    let e2 : x ++ (c ∷ []) ≡ front ++ back = cc in
    ⊎_elim
    (λ h. inl (h.0, cc (h.1)))
    (λ h. inr (h.0, h.1, cc (h.2)))
    (split_last front back x c e2)

pub last_alone : (x : List ℕ) (c d : ℕ) → x ++ (c ∷ []) ≡ d ∷ [] → (x ≡ []) × (c ≡ d)
last_alone [] c d e = (refl, cc)
last_alone (f ∷ x) c d e =
    let e2 : [] ≡ x ++ (c ∷ []) = cc in
    let both : (x ≡ []) × (c ∷ [] ≡ []) = both_empty x (c ∷ []) e2 in
    cc (both.1)

-- a live place is one of the pattern's
pub Live-below : (g : Glob) (x : List ℕ) (p : ℕ) → Live g x p → p < places g
Live-below empty x p h = absurd h
Live-below (one set) x p h = omega (arith, h.0)
Live-below (run set) x p h = omega (arith, h.0)
Live-below (cat a b) x p (inl h) = omega (arith, Live-below a x p h)
Live-below (cat a b) x p (inr h) = omega (arith, Live-below b h.2 h.0 h.6, h.3)
Live-below none x p h = absurd h
Live-below (alt a b) x p (inl h) = omega (arith, Live-below a x p h)
Live-below (alt a b) x p (inr h) = omega (arith, Live-below b x h.0 h.2, h.1)

-- what is reached after two parts, and which places are live in them
pub cat_behind : (E : List ℕ → Type 0) (a b : Glob) (x : List ℕ) → Behind E (cat a b) x ↔ Behind (Behind E a) b x
cat_behind E a b x = (
  λ h. (h.0 ++ h.4.0, h.4.1, h.2 ∙ ap (λ z. h.0 ++ z) h.4.2 ∙ sym (append_assoc h.0 h.4.0 h.4.1), (h.0, h.4.0, refl, h.3, h.4.3), h.4.4),
  λ h. (h.3.0, h.3.1 ++ h.1, h.2 ∙ ap (λ z. z ++ h.1) h.3.2 ∙ append_assoc h.3.0 h.3.1 h.1, h.3.3, (h.3.1, h.1, refl, h.3.4, h.4)),
)

pub alt_behind : (E : List ℕ → Type 0) (a b : Glob) (x : List ℕ) → Behind E (alt a b) x ↔ (Behind E a x ⊎ Behind E b x)
alt_behind E a b x = (
  λ h. ⊎_elim (λ t. inl (h.0, h.1, h.2, h.3, t)) (λ t. inr (h.0, h.1, h.2, h.3, t)) h.4,
  ⊎_elim (λ h. (h.0, h.1, h.2, h.3, inl h.4)) (λ h. (h.0, h.1, h.2, h.3, inr h.4)),
)

pub cat_left : (E : List ℕ → Type 0) (a b : Glob) (x : List ℕ) (p : ℕ) → p < places a →
    LiveAfter E (cat a b) x p ↔ LiveAfter E a x p
cat_left E a b x p lt = (
  λ h. (h.0, h.1, h.2, h.3, ⊎_elim (λ t. t) (λ t. absurd (omega (arith, t.3))) h.4),
  λ h. (h.0, h.1, h.2, h.3, inl h.4),
)

pub cat_right : (E : List ℕ → Type 0) (a b : Glob) (x : List ℕ) (q : ℕ) →
    LiveAfter E (cat a b) x (places a + q) ↔ LiveAfter (Behind E a) b x q
cat_right E a b x q = (
  λ h. ⊎_elim (λ t. absurd (omega (arith, Live-below a h.1 (places a + q) t)))
      (λ t. let e : t.0 ≡ q = omega (arith, t.3) in (
        h.0 ++ t.1,
        t.2,
        h.2 ∙ ap (λ z. h.0 ++ z) t.4 ∙ sym (append_assoc h.0 t.1 t.2),
        (h.0, t.1, refl, h.3, t.5),
        subst
            (λ z. Live b t.2 z) e t.6,
      )) h.4,
  λ h. (
    h.3.0,
    h.3.1 ++ h.1,
    h.2 ∙ ap (λ z. z ++ h.1) h.3.2 ∙ append_assoc h.3.0 h.3.1 h.1,
    h.3.3,
    inr
        (q, h.3.1, h.1, refl, refl, h.3.4, h.4),
  ),
)

pub alt_left : (E : List ℕ → Type 0) (a b : Glob) (x : List ℕ) (p : ℕ) → p < places a →
    LiveAfter E (alt a b) x p ↔ LiveAfter E a x p
alt_left E a b x p lt = (
  λ h. (h.0, h.1, h.2, h.3, ⊎_elim (λ t. t) (λ t. absurd (omega (arith, t.1))) h.4),
  λ h. (h.0, h.1, h.2, h.3, inl h.4),
)

pub alt_right : (E : List ℕ → Type 0) (a b : Glob) (x : List ℕ) (q : ℕ) →
    LiveAfter E (alt a b) x (places a + q) ↔ LiveAfter E b x q
alt_right E a b x q = (
  λ h. (
    h.0,
    h.1,
    h.2,
    h.3,
    ⊎_elim (λ t. absurd (omega (arith, Live-below a h.1 (places a + q) t)))
        (λ t. let e : t.0 ≡ q = omega (arith, t.1) in subst (λ z. Live b h.1 z) e t.2) h.4,
  ),
  λ h. (h.0, h.1, h.2, h.3, inr (q, refl, h.4)),
)

-- what is reached after one byte or a run, with one more byte
pub one_behind : (E : List ℕ → Type 0) (set : ByteSet) (x : List ℕ) (c : ℕ) (live : Bool) →
    (IsTrue live ↔ LiveAfter E (one set) x 0) →
    IsTrue (live && fits set c) ↔ Behind E (one set) (x ++ (c ∷ []))
one_behind E set x c live now = (
  λ h. let both = and_parts live (fits set c) h in let w = now.0 both.0 in
      (x, c ∷ [], refl, subst E (sym (w.2 ∙ ap (λ z. w.0 ++ z) w.4.1 ∙ append-nil w.0)) w.3, (c, refl, both.1)),
  λ h. ⊎_elim
      (λ t. let never : ⊥ = cc (t.0, h.4.1) in absurd never)
      (λ t. let e : (t.0 ++ (c ∷ [])) ≡ h.4.0 ∷ [] = sym t.1 ∙ h.4.1 in
      let both : (t.0 ≡ []) × (c ≡ h.4.0) = last_alone t.0 c h.4.0 e in
      and_from live (fits set c)
      (now.1 (h.0, t.0, t.2, h.3, (refl, both.0)))
      (subst (λ z. IsTrue (fits set z)) (sym both.1) h.4.2))
      (split_last h.0 h.1 x c h.2),
)

pub run_behind : (E : List ℕ → Type 0) (set : ByteSet) (x : List ℕ) (c : ℕ) (here live : Bool) →
    (IsTrue live ↔ LiveAfter E (run set) x 0) → (IsTrue here ↔ E (x ++ (c ∷ []))) →
    IsTrue (here || (live && fits set c)) ↔ Behind E (run set) (x ++ (c ∷ []))
run_behind E set x c here live now reached = (
  λ h. ⊎_elim
      (λ t. (x ++ (c ∷ []), [], sym (append-nil (x ++ (c ∷ []))), reached.0 t, refl))
      (λ t. let both = and_parts live (fits set c) t in let w = now.0 both.0 in (
        w.0,
        w.1 ++ (c ∷ []),
        ap (λ z. z ++ (c ∷ [])) w.2 ∙ append_assoc w.0 w.1 (c ∷ []),
        w.3,
        list_all-append (fits set) w.1 (c ∷ []) ∙ and_from _ _ w.4.1 (and_from _ _ both.1 refl),
      ))
      (or_cases here (live && fits set c) h),
  λ h. ⊎_elim
      (λ t. or_left here (live && fits set c) (reached.1 (subst E t.1 h.3)))
      (λ t.
      let e : list_all (fits set) (t.0 ++ (c ∷ [])) ≡ true = subst (λ z. list_all (fits set) z ≡ true) t.1 h.4 in
      let both = and_parts (list_all (fits set) t.0) (fits set c && true) (sym (list_all-append (fits set) t.0 (c ∷ [])) ∙ e) in
      or_right here (live && fits set c) (and_from live (fits set c) (now.1 (h.0, t.0, t.2, h.3, (refl, both.0)))
      (and_parts (fits set c) true both.1).0))
      (split_last h.0 h.1 x c h.2),
)

-- a run's place is live where what follows it is reached
pub run_live : (E : List ℕ → Type 0) (set : ByteSet) (x : List ℕ) → Behind E (run set) x ↔ LiveAfter E (run set) x 0
run_live E set x = (λ h. (h.0, h.1, h.2, h.3, (refl, h.4)), λ h. (h.0, h.1, h.2, h.3, h.4.1))

pub one_live : (E : List ℕ → Type 0) (set : ByteSet) (x : List ℕ) → E x ↔ LiveAfter E (one set) x 0
one_live E set x = (
  λ h. (x, [], sym (append-nil x), h, (refl, refl)),
  λ h. subst E (sym (h.2 ∙ ap (λ z. h.0 ++ z) h.4.1 ∙ append-nil h.0)) h.3,
)

pub empty_behind : (E : List ℕ → Type 0) (x : List ℕ) → E x ↔ Behind E empty x
empty_behind E x = (
  λ h. (x, [], sym (append-nil x), h, refl),
  λ h. subst E (sym (h.2 ∙ ap (λ z. h.0 ++ z) h.4 ∙ append-nil h.0)) h.3,
)
