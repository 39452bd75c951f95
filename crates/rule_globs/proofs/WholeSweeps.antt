-- A whole pattern: the beginning is a byte 0 before the name.
use Rattle.std.proofs.Common.{◌≡◌, ℕ, zero, suc, ◌+◌, ◌-◌, ◌<◌, ◌≤◌, Bool, true, false, ◌⊎◌, ◌↔◌, inl, inr, ⊎_elim}
use Rattle.std.proofs.Common.{List, [], ◌∷◌, ◌++◌, IsTrue, length, get_or, replicate, take, drop, refl, sym, ap, ◌∙◌, subst, arith}
use Rattle.std.specs.List.{list_all}
use Rattle.std.proofs.lemmas.List.{get_or-replicate, take_more, append-nil, append_assoc, take-append-drop, get_or-take}
use Rattle.std.proofs.lemmas.List.Folds.{list_all-append}
use Rattle.std.proofs.lemmas.Bool.{and_parts}
use Rattle.std.proofs.Common.{drop-cons, zero-add, true≢false, length-append, length-take}
use Rattle.rule_globs.specs.Glob.{Glob, empty, one, run, cat, none, alt, fits, Takes, places, Live, LiveOrEnd}
use Rattle.rule_globs.specs.inner.ByteBits.{has_bit}
use Rattle.rule_globs.specs.inner.Sweep.{Pass, sweep}
use Rattle.rule_globs.specs.laws.Behind.{Behind, LiveAfter, iff_trans, Live-below, both_empty}
use Rattle.rule_globs.proofs.Blocks.{has_bit-zero, has_bit-one_suc}
use Rattle.rule_globs.proofs.Sweeps.{sweep-holds, reached_last, Lit, Reached}

abbrev pub IsZero : List ℕ → Type 0
IsZero y = y ≡ 0 ∷ []

live_zero : (g : Glob) (x : List ℕ) (p : ℕ) → LiveAfter IsZero g (0 ∷ x) p ↔ Live g x p
live_zero g x p = (
  λ h. let e : h.1 ≡ x = cc (h.2, h.3) in subst (λ z. Live g z p) e h.4,
  λ h. (0 ∷ [], x, refl, refl, h),
)

takes_zero : (g : Glob) (x : List ℕ) → Behind IsZero g (0 ∷ x) ↔ Takes g x
takes_zero g x = (
  λ h. let e : h.1 ≡ x = cc (h.2, h.3) in subst (λ z. Takes g z) e h.4,
  λ h. (0 ∷ [], x, refl, refl, h),
)

-- ---- a name in blocks

-- The first block begins with byte 0, after which the pattern itself is reached, and in no later block it is.
abbrev pub Begins : List ℕ → ℕ → Type 0
Begins done reached = ((done ≡ []) × (reached ≡ 1)) ⊎ ((0 < length done) × (reached ≡ 0))

first_reached : (block name : List ℕ) → block ≡ 0 ∷ name → Reached IsZero [] block 1
first_reached block name e zero lt = (λ _. ap (take 1) e, λ _. refl)
first_reached block name e (suc i) lt = (
  λ h. absurd (true≢false (sym h ∙ has_bit-one_suc i)),
  λ h. absurd (omega (arith, length-take (suc (suc i)) block, ap length h)),
)

later_reached : (done block : List ℕ) → 0 < length done → Reached IsZero done block 0
later_reached done block some i lt = (
  λ h. absurd (true≢false (sym h ∙ has_bit-zero i)),
  λ h. absurd (omega (arith, length-append done (take (suc i) block), length-take (suc i) block, ap length h)),
)

begins-reached : (done block name : List ℕ) (reached : ℕ) → done ++ block ≡ 0 ∷ name → Begins done reached →
    Reached IsZero done block reached
begins-reached done block name reached e = ⊎_elim
    (λ h. let begin : block ≡ 0 ∷ name = ap (λ z. z ++ block) (sym h.0) ∙ e in
    subst (λ z. Reached IsZero z block reached) (sym h.0) (subst (λ w. Reached IsZero [] block w) (sym h.1)
    (first_reached block name begin)))
    (λ h. subst (λ w. Reached IsZero done block w) (sym h.1) (later_reached done block h.0))

-- The name after byte 0 is what is done and the block, and the bits are the live places after what is done.
abbrev pub IsUpto : Glob → List ℕ → List ℕ → ℕ → List Bool → Type 0
IsUpto g name block reached live =
    (done : List ℕ) × (done ++ block ≡ 0 ∷ name) × Begins done reached × Lit IsZero g done 0 live

pub upto-start : (g : Glob) (n : ℕ) (block : List ℕ) → places g ≤ n → block ≡ 0 ∷ [] → IsUpto g [] block 1 (replicate n false)
upto-start g n block room e = (
  [],
  e,
  inl (refl, refl),
  λ p lt. (
    λ h. absurd (true≢false (sym h ∙ ap (λ z. get_or (replicate n false) z false) (zero-add p)
        ∙ get_or-replicate n p false false (omega (arith, room, lt)))),
    λ h. let e : 0 ∷ [] ≡ [] = sym (h.3) ∙ (both_empty h.0 h.1 h.2).0 in let never : ⊥ = cc (e) in absurd never,
  ),
)

-- one more byte in the block
pub upto-push : (g : Glob) (bytes : List ℕ) (i c : ℕ) (block after : List ℕ) (reached : ℕ) (live : List Bool) → i < length bytes →
    c ≡ get_or bytes i 0 → after ≡ block ++ (c ∷ []) → IsUpto g (take i bytes) block reached live →
    IsUpto g (take (i + 1) bytes) after reached live
upto-push g bytes i c block after reached live lt f e now =
    let step : take i bytes ++ (c ∷ []) ≡ take (i + 1) bytes = ap (λ z. take i bytes ++ (z ∷ [])) f ∙ sym (take_more bytes i 0 lt) in (
      now.0,
      ap (λ z. now.0 ++ z) e ∙ sym (append_assoc now.0 block (c ∷ [])) ∙ ap (λ z. z ++ (c ∷ [])) now.1 ∙ ap (λ z. 0 ∷ z) step,
      now.2,
      now.3,
    )

-- a pass by the block, and a new one
pub upto-pass : (g : Glob) (name block : List ℕ) (reached : ℕ) (live : List Bool) (r : Pass) → 0 < length block →
    length block ≤ 64 → places g ≤ length live → IsUpto g name block reached live →
    r ≡ sweep g block (record { place = 0; reached = reached; live = live }) →
    Lit IsZero g (0 ∷ name) 0 r.live × (IsTrue (has_bit r.reached (length block - 1)) ↔ Takes g name)
upto-pass g name block reached live r some few room now e =
    let s : Pass = record { place = 0; reached = reached; live = live } in
    let both = sweep-holds g IsZero now.0 block s some few (omega (arith, room)) now.3
    (begins-reached now.0 block name reached now.1 now.2) in
    let P : Pass → Type 0 = λ t. Lit IsZero g (0 ∷ name) 0 t.live × (IsTrue (has_bit t.reached (length block - 1)) ↔ Takes g name) in
    subst P (sym e) (
      subst (λ z. Lit IsZero g z 0 (sweep g block s).live) now.1 both.0,
      iff_trans (subst (λ z. IsTrue (has_bit (sweep g block s).reached (length block - 1)) ↔ Behind IsZero g z) now.1
          (reached_last (Behind IsZero g) now.0 block (sweep g block s).reached some both.1)) (takes_zero g name),
    )

pub upto-next : (g : Glob) (name : List ℕ) (live : List Bool) → Lit IsZero g (0 ∷ name) 0 live → IsUpto g name [] 0 live
upto-next g name live lit = (0 ∷ name, append-nil (0 ∷ name), inr (omega arith, refl), lit)

pub upto-same : (g : Glob) (name block block' : List ℕ) (reached reached' : ℕ) (live live' : List Bool) → block' ≡ block →
    reached' ≡ reached → live' ≡ live → IsUpto g name block reached live → IsUpto g name block' reached' live'
upto-same g name block block' reached reached' live live' e f h now =
    subst (λ z. IsUpto g name z reached' live') (sym e)
    (subst (λ z. IsUpto g name block z live') (sym f) (subst (λ z. IsUpto g name block reached z) (sym h) now))

-- ---- where nothing is live

-- the first of two parts ends within the bytes, or takes them all and more
cut : (front back x : List ℕ) (c : ℕ) (y : List ℕ) → x ++ (c ∷ y) ≡ front ++ back →
    ((most : List ℕ) × (back ≡ most ++ (c ∷ y)) × (x ≡ front ++ most)) ⊎ ((d : ℕ) × (more : List ℕ) × (front ≡ x ++ (d ∷ more)))
cut [] back x c y e = inl (x, sym e, refl)
cut (f ∷ front) back [] c y e = inr (f, front, refl)
cut (f ∷ front) back (b ∷ x) c y e =
    let e1 : b ≡ f = cc in
    let e2 : x ++ (c ∷ y) ≡ front ++ back = cc in
    ⊎_elim (λ h. inl (h.0, h.1, cc (h.2))) (λ h. inr (h.0, h.1, cc (h.2))) (cut front back x c y e2)

-- within bytes that a pattern matches, some place is live
pub some_live : (g : Glob) (x : List ℕ) (c : ℕ) (y : List ℕ) → Takes g (x ++ (c ∷ y)) → (p : ℕ) × Live g x p
some_live empty x c y h = let e : c ∷ y ≡ [] = (both_empty x (c ∷ y) (sym h)).1 in let never : ⊥ = cc (e) in absurd never
some_live (one set) [] c y h = (0, (refl, refl))
some_live (one set) (d ∷ x) c y h =
    let e : x ++ (c ∷ y) ≡ [] = cc (h.1) in
    let e2 : c ∷ y ≡ [] = (both_empty x (c ∷ y) (sym e)).1 in
    let never : ⊥ = cc (e2) in absurd never
some_live (run set) x c y h =
    (0, (refl, (and_parts (list_all (fits set) x) (list_all (fits set) (c ∷ y)) (sym (list_all-append (fits set) x (c ∷ y)) ∙ h)).0))
some_live (cat a b) x c y h = ⊎_elim
    (λ t. let live = some_live b t.0 c y (subst (Takes b) t.1 h.4) in
    (places a + live.0, inr (live.0, h.0, t.0, refl, t.2, h.3, live.1)))
    (λ t. let live = some_live a x t.0 t.1 (subst (Takes a) t.2 h.3) in (live.0, inl live.1))
    (cut h.0 h.1 x c y h.2)
some_live none x c y h = absurd h
some_live (alt a b) x c y (inl h) = let live = some_live a x c y h in (live.0, inl live.1)
some_live (alt a b) x c y (inr h) = let live = some_live b x c y h in (places a + live.0, inr (live.0, refl, live.1))

-- where no place is live, and more bytes come, the whole name isn't matched
pub nothing_taken : (g : Glob) (bytes : List ℕ) (i n : ℕ) (live : List Bool) → i < length bytes → places g ≤ n → n ≤ length live →
    Lit IsZero g (0 ∷ take i bytes) 0 live → ((p : ℕ) → p < length (take n live) → get_or (take n live) p false ≡ false) →
    Takes g bytes → ⊥
nothing_taken g bytes i n live lt room within lit dark h =
    let c : ℕ = get_or bytes i 0 in
    let whole : take i bytes ++ (c ∷ drop (suc i) bytes) ≡ bytes = ap (λ z. take i bytes ++ z) (sym (drop-cons bytes i 0 lt))
    ∙ take-append-drop i bytes in
    let some = some_live g (take i bytes) c (drop (suc i) bytes) (subst (Takes g) (sym whole) h) in
    let below = Live-below g (take i bytes) some.0 some.1 in
    let bit : get_or live (0 + some.0) false ≡ true = (lit some.0 below).1 ((live_zero g (take i bytes) some.0).1 some.1) in
    let same : get_or (take n live) some.0 false ≡ get_or live some.0 false =
    get_or-take n live some.0 false (omega (arith, below, room)) in
    true≢false (sym bit ∙ ap (λ z. get_or live z false) (zero-add some.0) ∙ sym same
    ∙ dark some.0 (omega (arith, below, room, within, length-take n live)))

-- the law: a pattern matches the bytes exactly where its end is live after them
pub end-live : (g : Glob) (x : List ℕ) → Takes g x ↔ LiveOrEnd g x (places g)
end-live g x = (
  λ h. inr (refl, h),
  ⊎_elim (λ h. absurd (omega (arith, Live-below g x (places g) h))) (λ h. h.1),
)
