-- The live places by parts are those by steps.
use Rattle.std.proofs.Common.{◌≡◌, ℕ, ◌+◌, ◌⊎◌, ◌↔◌, inl, inr, ⊎_elim, List, [], ◌∷◌, ◌++◌, IsTrue, refl, sym, ap, ◌∙◌, subst, arith}
use Rattle.std.specs.List.{list_all}
use Rattle.std.proofs.lemmas.List.{append-nil, append_assoc}
use Rattle.std.proofs.lemmas.Bool.{and_parts, and_from}
use Rattle.rule_globs.specs.Glob.{Glob, ByteSet, empty, one, run, cat, none, alt, fits, Takes, places, Live, LiveOrEnd}
use Rattle.rule_globs.specs.LiveSteps.{Left, left, Steps, stay, over_empty, into_cat, into_first, into_second, leave, take_one, take_more}
use Rattle.rule_globs.specs.LiveSteps.{StandsAt, IsLeftFirst}

run_along : (at : ℕ) (set : ByteSet) (x y : List ℕ) (r e : List Left) → IsTrue (list_all (fits set) x) →
    Steps (left at (run set) ∷ r) y e → Steps (left at (run set) ∷ r) (x ++ y) e
run_along at set [] y r e h s = s
run_along at set (c ∷ x) y r e h s =
    let both = and_parts (fits set c) (list_all (fits set) x) h in
    take_more at set c r e (x ++ y) both.0 (run_along at set x y r e both.1 s)

-- what a pattern matches can be stepped over
over : (g : Glob) (at : ℕ) (x y : List ℕ) (r e : List Left) → Takes g x → Steps r y e → Steps (left at g ∷ r) (x ++ y) e
over empty at x y r e h s = subst (λ z. Steps (left at empty ∷ r) (z ++ y) e) (sym h) (over_empty at r e y s)
over (one set) at x y r e h s =
    subst (λ z. Steps (left at (one set) ∷ r) (z ++ y) e) (sym h.1) (take_one at set h.0 r e y h.2 s)
over (run set) at x y r e h s = run_along at set x y r e h (leave at set r e y s)
over (cat a b) at x y r e h s =
    subst (λ z. Steps (left at (cat a b) ∷ r) z e) (sym (append_assoc h.0 h.1 y) ∙ ap (λ z. z ++ y) (sym h.2))
    (into_cat at a b r e (h.0 ++ (h.1 ++ y)) (over a at h.0 (h.1 ++ y) (left (at + places a) b ∷ r) e h.3
    (over b (at + places a) h.1 y r e h.4 s)))
over none at x y r e h s = absurd h
over (alt a b) at x y r e h s = ⊎_elim
    (λ t. into_first at a b r e (x ++ y) (over a at x y r e t s))
    (λ t. into_second at a b r e (x ++ y) (over b (at + places a) x y r e t s)) h

-- an item that takes bytes, at this place
abbrev IsItemAt : List Left → ℕ → Type 0
IsItemAt e p = (set : ByteSet) × (r : List Left) × ((e ≡ left p (one set) ∷ r) ⊎ (e ≡ left p (run set) ∷ r))

reach : (g : Glob) (at : ℕ) (x : List ℕ) (p : ℕ) (r : List Left) → Live g x p →
    (e : List Left) × Steps (left at g ∷ r) x e × IsItemAt e (at + p)
reach empty at x p r h = absurd h
reach (one set) at x p r h =
    let e : at + p ≡ at = omega (arith, h.0) in (
      left at (one set) ∷ r,
      subst (λ z. Steps (left at (one set) ∷ r) z (left at (one set) ∷ r)) (sym h.1) (stay _),
      (set, r, inl (ap (λ z. left z (one set) ∷ r) (sym e))),
    )
reach (run set) at x p r h =
    let e : at + p ≡ at = omega (arith, h.0) in (
      left at (run set) ∷ r,
      subst (λ z. Steps (left at (run set) ∷ r) z (left at (run set) ∷ r)) (append-nil x)
          (run_along at set x [] r (left at (run set) ∷ r) h.1 (stay _)),
      (set, r, inr (ap (λ z. left z (run set) ∷ r) (sym e))),
    )
reach (cat a b) at x p r (inl h) =
    let w = reach a at x p (left (at + places a) b ∷ r) h in (w.0, into_cat at a b r w.0 x w.1, w.2)
reach (cat a b) at x p r (inr h) =
    let w = reach b (at + places a) h.2 h.0 r h.6 in
    let e : at + places a + h.0 ≡ at + p = omega (arith, h.3) in (
      w.0,
      into_cat at a b r w.0 x (subst (λ z. Steps (left at a ∷ left (at + places a) b ∷ r) z w.0) (sym h.4)
          (over a at h.1 h.2 (left (at + places a) b ∷ r) w.0 h.5 w.1)),
      subst (λ z. IsItemAt w.0 z) e w.2,
    )
reach none at x p r h = absurd h
reach (alt a b) at x p r (inl h) = let w = reach a at x p r h in (w.0, into_first at a b r w.0 x w.1, w.2)
reach (alt a b) at x p r (inr h) =
    let w = reach b (at + places a) x h.0 r h.2 in
    let e : at + places a + h.0 ≡ at + p = omega (arith, h.1) in
    (w.0, into_second at a b r w.0 x w.1, subst (λ z. IsItemAt w.0 z) e w.2)

-- what is left, by its parts: a place in it that is live after the bytes, or its end
abbrev AllTake : List Left → List ℕ → Type 0
AllTake [] x = x ≡ []
AllTake (left at g ∷ r) x = (front : List ℕ) × (back : List ℕ) × (x ≡ front ++ back) × Takes g front × AllTake r back

abbrev SomeLive : List Left → List ℕ → ℕ → Type 0
SomeLive [] x p = ⊥
SomeLive (left at g ∷ r) x p = ((q : ℕ) × (p ≡ at + q) × Live g x q)
    ⊎ ((front : List ℕ) × (back : List ℕ) × (x ≡ front ++ back) × Takes g front × SomeLive r back p)

-- steps to the end
ended : (s e : List Left) (x : List ℕ) → Steps s x e → e ≡ [] → AllTake s x
ended s e x (stay r) f = subst (λ z. AllTake z []) (sym f) refl
ended s e x (over_empty at r e' x' h) f = ([], x', refl, refl, ended r e' x' h f)
ended s e x (into_cat at a b r e' x' h) f =
    let w = ended (left at a ∷ left (at + places a) b ∷ r) e' x' h f in
    (w.0 ++ w.4.0, w.4.1, w.2 ∙ ap (λ z. w.0 ++ z) w.4.2 ∙ sym (append_assoc w.0 w.4.0 w.4.1), (w.0, w.4.0, refl, w.3, w.4.3), w.4.4)
ended s e x (into_first at a b r e' x' h) f =
    let w = ended (left at a ∷ r) e' x' h f in (w.0, w.1, w.2, inl w.3, w.4)
ended s e x (into_second at a b r e' x' h) f =
    let w = ended (left (at + places a) b ∷ r) e' x' h f in (w.0, w.1, w.2, inr w.3, w.4)
ended s e x (leave at set r e' x' h) f = ([], x', refl, refl, ended r e' x' h f)
ended s e x (take_one at set c r e' x' t h) f = (c ∷ [], x', refl, (c, refl, t), ended r e' x' h f)
ended s e x (take_more at set c r e' x' t h) f =
    let w = ended (left at (run set) ∷ r) e' x' h f in
    (c ∷ w.0, w.1, ap (λ z. c ∷ z) w.2, and_from _ _ t w.3, w.4)

-- steps to an item that takes bytes
arrived : (s e : List Left) (x : List ℕ) (p : ℕ) → Steps s x e → IsItemAt e p → SomeLive s x p
arrived s e x p (stay r) f = ⊎_elim
    (λ h. subst (λ z. SomeLive z [] p) (sym h) (inl (0, omega arith, (refl, refl))))
    (λ h. subst (λ z. SomeLive z [] p) (sym h) (inl (0, omega arith, (refl, refl)))) f.2
arrived s e x p (over_empty at r e' x' h) f = inr ([], x', refl, refl, arrived r e' x' p h f)
arrived s e x p (into_cat at a b r e' x' h) f = ⊎_elim
    (λ t. inl (t.0, t.1, inl t.2))
    (λ t. ⊎_elim
    (λ u. inl (places a + u.0, omega (arith, u.1), inr (u.0, t.0, t.1, refl, t.2, t.3, u.2)))
    (λ u. inr (t.0 ++ u.0, u.1, t.2 ∙ ap (λ z. t.0 ++ z) u.2 ∙ sym (append_assoc t.0 u.0 u.1), (t.0, u.0, refl, t.3, u.3), u.4)) t.4)
    (arrived (left at a ∷ left (at + places a) b ∷ r) e' x' p h f)
arrived s e x p (into_first at a b r e' x' h) f = ⊎_elim
    (λ t. inl (t.0, t.1, inl t.2))
    (λ t. inr (t.0, t.1, t.2, inl t.3, t.4))
    (arrived (left at a ∷ r) e' x' p h f)
arrived s e x p (into_second at a b r e' x' h) f = ⊎_elim
    (λ t. inl (places a + t.0, omega (arith, t.1), inr (t.0, refl, t.2)))
    (λ t. inr (t.0, t.1, t.2, inr t.3, t.4))
    (arrived (left (at + places a) b ∷ r) e' x' p h f)
arrived s e x p (leave at set r e' x' h) f = inr ([], x', refl, refl, arrived r e' x' p h f)
arrived s e x p (take_one at set c r e' x' t h) f = inr (c ∷ [], x', refl, (c, refl, t), arrived r e' x' p h f)
arrived s e x p (take_more at set c r e' x' t h) f = ⊎_elim
    (λ u. inl (u.0, u.1, (u.2.0, and_from _ _ t u.2.1)))
    (λ u. inr (c ∷ u.0, u.1, ap (λ z. c ∷ z) u.2, and_from _ _ t u.3, u.4))
    (arrived (left at (run set) ∷ r) e' x' p h f)

alone : (g : Glob) (x : List ℕ) (p : ℕ) → SomeLive (left 0 g ∷ []) x p → LiveOrEnd g x p
alone g x p (inl h) = let e : h.0 ≡ p = omega (arith, h.1) in inl (subst (λ z. Live g x z) e h.2)
alone g x p (inr h) = absurd h.4

stands : (g : Glob) (x : List ℕ) (p : ℕ) (r : List Left) → Steps (left 0 g ∷ []) x r → StandsAt g r p → LiveOrEnd g x p
stands g x p [] h f =
    let w = ended (left 0 g ∷ []) [] x h refl in
    let e : w.0 ≡ x = sym (w.2 ∙ ap (λ z. w.0 ++ z) w.4 ∙ append-nil w.0) in
    inr (f, subst (λ z. Takes g z) e w.3)
stands g x p (left at (one set) ∷ r) h f =
    alone g x p (arrived (left 0 g ∷ []) _ x p h (set, r, inl (ap (λ z. left z (one set) ∷ r) (sym f))))
stands g x p (left at (run set) ∷ r) h f =
    alone g x p (arrived (left 0 g ∷ []) _ x p h (set, r, inr (ap (λ z. left z (run set) ∷ r) (sym f))))
stands g x p (left at empty ∷ r) h f = absurd f
stands g x p (left at (cat a b) ∷ r) h f = absurd f
stands g x p (left at none ∷ r) h f = absurd f
stands g x p (left at (alt a b) ∷ r) h f = absurd f

-- The law: a place is live where some steps leave it first.
pub live-by_steps : (g : Glob) (x : List ℕ) (p : ℕ) → IsLeftFirst g x p ↔ LiveOrEnd g x p
live-by_steps g x p = (
  λ h. stands g x p h.0 h.1 h.2,
  ⊎_elim
      (λ h. let w = reach g 0 x p [] h in
      let e : p ≡ 0 + p = omega arith in (
        w.0,
        w.1,
        ⊎_elim
            (λ t. subst (λ z. StandsAt g z p) (sym t) e)
            (λ t. subst (λ z. StandsAt g z p) (sym t) e) w.2.2,
      ))
      (λ h. ([], subst (λ z. Steps (left 0 g ∷ []) z []) (append-nil x) (over g 0 x [] [] [] h.1 (stay [])), h.0)),
)
