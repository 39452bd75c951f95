-- One sweep moves the set of live places on by a block of bytes.
use Rattle.std.proofs.Common.{◌≡◌, ◌≢◌, ℕ, zero, suc, ◌+◌, ◌-◌, ◌<◌, ◌≤◌, Bool, true, false, ◌||◌, ◌&&◌, ◌⊎◌, ◌↔◌, inl, inr, ⊎_elim}
use Rattle.std.proofs.Common.{List, [], ◌∷◌, ◌++◌, IsTrue, length, take, get_or, set, bit_and, refl, sym, ap, ◌∙◌, subst, arith}
use Rattle.std.proofs.Common.{get_or-set_other, get_or-set_same}
use Rattle.std.proofs.Math.ListN.{length-set}
use Rattle.std.proofs.lemmas.Bool.{or_cases, or_left, or_right, cases_lt}
use Rattle.std.proofs.lemmas.List.{append-nil, append_assoc, take_more, take_all}
use Rattle.rule_globs.specs.Glob.{Glob, ByteSet, empty, one, run, cat, none, alt, fits, places}
use Rattle.rule_globs.specs.inner.Blocks.{taken}
use Rattle.rule_globs.specs.inner.ByteBits.{has_bit}
use Rattle.rule_globs.specs.inner.Sweep.{Pass, sweep, before_each, through, restart}
use Rattle.rule_globs.specs.laws.Behind.{Behind, LiveAfter, iff_trans, iff_sym, one_behind, run_behind, run_live, one_live, empty_behind}
use Rattle.rule_globs.specs.laws.Behind.{cat_left, cat_right, cat_behind, alt_left, alt_right, alt_behind}
use Rattle.rule_globs.proofs.Blocks.{bit_at-taken, before_first, before_next, run_before, through_bit}
use Rattle.rule_globs.proofs.Blocks.{has_bit-and, has_bit-or, has_bit-zero}

-- where a sweep goes, that it keeps the length, and that it writes its own places only
pub sweep-place : (g : Glob) (block : List ℕ) (s : Pass) → (sweep g block s).place ≡ s.place + places g
unfolding sweep
sweep-place empty block s = omega arith
sweep-place (one set) block s = refl
sweep-place (run set) block s = refl
sweep-place (cat a b) block s = omega (arith, sweep-place a block s, sweep-place b block (sweep a block s))
sweep-place none block s = omega arith
sweep-place (alt a b) block s = omega (arith, sweep-place a block s, sweep-place b block (restart s.reached (sweep a block s)))

pub sweep-length : (g : Glob) (block : List ℕ) (s : Pass) → length (sweep g block s).live ≡ length s.live
unfolding sweep
sweep-length empty block s = refl
sweep-length (one set) block s = length-set _ _ _
sweep-length (run set) block s = length-set _ _ _
sweep-length (cat a b) block s = sweep-length b block (sweep a block s) ∙ sweep-length a block s
sweep-length none block s = refl
sweep-length (alt a b) block s = sweep-length b block (restart s.reached (sweep a block s)) ∙ sweep-length a block s

-- a sweep writes its own places
abbrev pub IsOutside : Glob → Pass → ℕ → Type 0
IsOutside g s p = (p < s.place) ⊎ (s.place + places g ≤ p)

pub sweep-outside : (g : Glob) (block : List ℕ) (s : Pass) (p : ℕ) → IsOutside g s p →
    get_or (sweep g block s).live p false ≡ get_or s.live p false
unfolding sweep
sweep-outside empty block s p h = refl
sweep-outside (one set) block s p h = let ne : p ≢ s.place = ⊎_elim (λ t. omega arith) (λ t. omega arith) h in rw get_or-set_other
sweep-outside (run set) block s p h = let ne : p ≢ s.place = ⊎_elim (λ t. omega arith) (λ t. omega arith) h in rw get_or-set_other
sweep-outside (cat a b) block s p h =
    sweep-outside b block (sweep a block s) p
    (⊎_elim (λ t. inl (omega (arith, sweep-place a block s))) (λ t. inr (omega (arith, sweep-place a block s))) h)
    ∙ sweep-outside a block s p (⊎_elim (λ t. inl t) (λ t. inr (omega arith)) h)
sweep-outside none block s p h = refl
sweep-outside (alt a b) block s p h =
    sweep-outside b block (restart s.reached (sweep a block s)) p
    (⊎_elim (λ t. inl (omega (arith, sweep-place a block s))) (λ t. inr (omega (arith, sweep-place a block s))) h)
    ∙ sweep-outside a block s p (⊎_elim (λ t. inl t) (λ t. inr (omega arith)) h)

-- The bits of `live` from `place` on are the pattern's live places after the bytes, where the pattern itself is
-- reached after those of E.
abbrev pub Lit : (List ℕ → Type 0) → Glob → List ℕ → ℕ → List Bool → Type 0
Lit E g x place live = (p : ℕ) → p < places g → IsTrue (get_or live (place + p) false) ↔ LiveAfter E g x p

-- Bit i of the word says whether the bytes x and those of the block up to byte i are in E.
abbrev pub Reached : (List ℕ → Type 0) → List ℕ → List ℕ → ℕ → Type 0
Reached E x block word = (i : ℕ) → i < length block → IsTrue (has_bit word i) ↔ E (x ++ take (suc i) block)

-- the two parts of a set of places
split_places : (P : ℕ → Type 0) (n m : ℕ) → ((p : ℕ) → p < n → P p) → ((q : ℕ) → q < m → P (n + q)) →
    (p : ℕ) → p < n + m → P p
split_places P n m left right p lt = ⊎_elim
    (λ h. left p h)
    (λ h. let e : n + (p - n) ≡ p = omega arith in subst P e (right (p - n) (omega arith)))
    (cases_lt p n)

or_both : {A B : Type 0} (x y : Bool) → (IsTrue x ↔ A) → (IsTrue y ↔ B) → IsTrue (x || y) ↔ (A ⊎ B)
or_both x y f g = (
  λ h. ⊎_elim (λ t. inl (f.0 t)) (λ t. inr (g.0 t)) (or_cases x y h),
  ⊎_elim (λ t. or_left x y (f.1 t)) (λ t. or_right x y (g.1 t)),
)

one_place : (P : ℕ → Type 0) → P 0 → (p : ℕ) → p < 1 → P p
one_place P h p lt = let e : 0 ≡ p = omega arith in subst P e h

bit_is : {A : Type 0} (b d : Bool) → b ≡ d → (IsTrue d ↔ A) → IsTrue b ↔ A
bit_is {A} b d e h = subst (λ z. IsTrue z ↔ A) (sym e) h

-- the bit that a leaf writes
written : (live : List Bool) (place : ℕ) (b : Bool) → place + 1 ≤ length live → get_or (set live place b) (place + 0) false ≡ b
written live place b room =
    let e : place ≡ place + 0 = omega arith in
    let lt : place < length live = omega arith in
    subst (λ z. get_or (set live place b) z false ≡ b) e (get_or-set_same live place b false lt)

at_first : {A : Type 0} (live : List Bool) (place : ℕ) → (IsTrue (get_or live (place + 0) false) ↔ A) →
    IsTrue (get_or live place false) ↔ A
at_first {A} live place h = let e : place + 0 ≡ place = omega arith in subst (λ z. IsTrue (get_or live z false) ↔ A) e h

-- ---- a block at one place

extended : (x block : List ℕ) (i : ℕ) → i < length block → (x ++ take i block) ++ (get_or block i 0 ∷ []) ≡ x ++ take (suc i) block
extended x block i lt =
    let e : i + 1 ≡ suc i = omega arith in
    append_assoc x (take i block) (get_or block i 0 ∷ [])
    ∙ ap (λ z. x ++ z) (sym (take_more block i 0 lt) ∙ ap (λ k. take k block) e)

-- what is reached after the last byte
pub reached_last : (E : List ℕ → Type 0) (x block : List ℕ) (word : ℕ) → 0 < length block → Reached E x block word →
    IsTrue (has_bit word (length block - 1)) ↔ E (x ++ block)
reached_last E x block word some reached =
    let e : suc (length block - 1) ≡ length block = omega arith in
    subst (λ z. IsTrue (has_bit word (length block - 1)) ↔ E (x ++ z))
    (ap (λ k. take k block) e ∙ take_all (length block) block (omega arith))
    (reached (length block - 1) (omega arith))

-- before which bytes an item of one byte is live
one_before : (E : List ℕ → Type 0) (set : ByteSet) (x block : List ℕ) (here : Bool) (word : ℕ) → length block ≤ 64 →
    (IsTrue here ↔ LiveAfter E (one set) x 0) → Reached E x block word →
    (i : ℕ) → i < length block → IsTrue (has_bit (before_each here word) i) ↔ LiveAfter E (one set) (x ++ take i block) 0
one_before E set x block here word few now reached zero lt =
    bit_is _ _ (before_first here word) (subst (λ z. IsTrue here ↔ LiveAfter E (one set) z 0) (sym (append-nil x)) now)
one_before E set x block here word few now reached (suc i) lt =
    bit_is _ _ (before_next here word i (omega arith))
    (iff_trans (reached i (omega arith)) (one_live E set (x ++ take (suc i) block)))

one_reached : (E : List ℕ → Type 0) (set : ByteSet) (x block : List ℕ) (here : Bool) (word : ℕ) → length block ≤ 64 →
    (IsTrue here ↔ LiveAfter E (one set) x 0) → Reached E x block word →
    Reached (Behind E (one set)) x block (bit_and (before_each here word) (taken set block))
one_reached E set x block here word few now reached i lt =
    let live : Bool = has_bit (before_each here word) i in
    bit_is _ _ (has_bit-and (before_each here word) (taken set block) i ∙ ap (λ z. live && z) (bit_at-taken set block i lt))
    (subst (λ z. IsTrue (live && fits set (get_or block i 0)) ↔ Behind E (one set) z) (extended x block i lt)
    (one_behind E set (x ++ take i block) (get_or block i 0) live (one_before E set x block here word few now reached i lt)))

-- where a run is left, by whether it is live before the byte
run_step : (E : List ℕ → Type 0) (set : ByteSet) (x block : List ℕ) (here : Bool) (word i : ℕ) → length block ≤ 64 →
    Reached E x block word → i < length block →
    (IsTrue (run_before here word (taken set block) i) ↔ LiveAfter E (run set) (x ++ take i block) 0) →
    IsTrue (has_bit (through here word (taken set block)) i) ↔ Behind E (run set) (x ++ take (suc i) block)
run_step E set x block here word i few reached lt live =
    let c : ℕ = get_or block i 0 in
    let l : Bool = run_before here word (taken set block) i in
    let more = extended x block i lt in
    bit_is _ _ (through_bit here word (taken set block) i (omega arith)
    ∙ ap (λ z. has_bit word i || (l && z)) (bit_at-taken set block i lt))
    (subst (λ z. IsTrue (has_bit word i || (l && fits set c)) ↔ Behind E (run set) z) more
    (run_behind E set (x ++ take i block) c (has_bit word i) l live
    (subst (λ z. IsTrue (has_bit word i) ↔ E z) (sym more) (reached i lt))))

run_live_before : (E : List ℕ → Type 0) (set : ByteSet) (x block : List ℕ) (here : Bool) (word : ℕ) → length block ≤ 64 →
    (IsTrue here ↔ LiveAfter E (run set) x 0) → Reached E x block word →
    (i : ℕ) → i < length block →
    IsTrue (run_before here word (taken set block) i) ↔ LiveAfter E (run set) (x ++ take i block) 0
run_live_before E set x block here word few now reached zero lt =
    subst (λ z. IsTrue here ↔ LiveAfter E (run set) z 0) (sym (append-nil x)) now
run_live_before E set x block here word few now reached (suc i) lt =
    iff_trans (run_step E set x block here word i few reached (omega arith)
    (run_live_before E set x block here word few now reached i (omega arith)))
    (run_live E set (x ++ take (suc i) block))

run_reached : (E : List ℕ → Type 0) (set : ByteSet) (x block : List ℕ) (here : Bool) (word : ℕ) → length block ≤ 64 →
    (IsTrue here ↔ LiveAfter E (run set) x 0) → Reached E x block word →
    Reached (Behind E (run set)) x block (through here word (taken set block))
run_reached E set x block here word few now reached i lt =
    run_step E set x block here word i few reached lt (run_live_before E set x block here word few now reached i lt)

-- ---- a block at a whole pattern

-- If the bits are the live places after some bytes, then the sweep makes them those after the block too.
pub sweep-holds : (g : Glob) (E : List ℕ → Type 0) (x block : List ℕ) (s : Pass) → 0 < length block → length block ≤ 64 →
    s.place + places g ≤ length s.live → Lit E g x s.place s.live → Reached E x block s.reached →
    Lit E g (x ++ block) s.place (sweep g block s).live × Reached (Behind E g) x block (sweep g block s).reached
unfolding sweep
sweep-holds empty E x block s some few room now reached =
    (λ p lt. absurd (omega arith), λ i lt. iff_trans (reached i lt) (empty_behind E (x ++ take (suc i) block)))
sweep-holds (one set) E x block s some few room now reached = (
  one_place (λ p. IsTrue (get_or (sweep (one set) block s).live (s.place + p) false) ↔ LiveAfter E (one set) (x ++ block) p)
      (bit_is _ _ (written s.live s.place (has_bit s.reached (length block - 1)) room)
      (iff_trans (reached_last E x block s.reached some reached) (one_live E set (x ++ block)))),
  one_reached E set x block (get_or s.live s.place false) s.reached few (at_first s.live s.place (now 0 (omega arith))) reached,
)
sweep-holds (run set) E x block s some few room now reached =
    let word : ℕ = through (get_or s.live s.place false) s.reached (taken set block) in
    let later : Reached (Behind E (run set)) x block word =
    run_reached E set x block (get_or s.live s.place false) s.reached few (at_first s.live s.place (now 0 (omega arith))) reached in (
      one_place (λ p. IsTrue (get_or (sweep (run set) block s).live (s.place + p) false) ↔ LiveAfter E (run set) (x ++ block) p)
          (bit_is _ _ (written s.live s.place (has_bit word (length block - 1)) room)
          (iff_trans (reached_last (Behind E (run set)) x block word some later) (run_live E set (x ++ block)))),
      later,
    )
sweep-holds (cat a b) E x block s some few room now reached =
    let s1 : Pass = sweep a block s in
    let place1 : s1.place ≡ s.place + places a = sweep-place a block s in
    let first = sweep-holds a E x block s some few (omega arith)
    (λ p lt. iff_trans (now p (omega arith)) (cat_left E a b x p lt)) reached in
    let second = sweep-holds b (Behind E a) x block s1 some few (omega (arith, sweep-length a block s, place1))
    (λ q lt. let e : s.place + (places a + q) ≡ s1.place + q = omega (arith, place1) in
    bit_is _ _ (sweep-outside a block s (s1.place + q) (inr (omega (arith, place1))) ∙ ap (λ z. get_or s.live z false) (sym e))
    (iff_trans (now (places a + q) (omega arith)) (cat_right E a b x q))) first.1 in (
      split_places (λ p. IsTrue (get_or (sweep b block s1).live (s.place + p) false) ↔ LiveAfter E (cat a b) (x ++ block) p)
          (places a) (places b)
          (λ p lt. bit_is _ _ (sweep-outside b block s1 (s.place + p) (inl (omega (arith, place1))))
          (iff_trans (first.0 p lt) (iff_sym (cat_left E a b (x ++ block) p lt))))
          (λ q lt. let e : s.place + (places a + q) ≡ s1.place + q = omega (arith, place1) in
          bit_is _ _ (ap (λ z. get_or (sweep b block s1).live z false) e)
          (iff_trans (second.0 q lt) (iff_sym (cat_right E a b (x ++ block) q)))),
      λ i lt. iff_trans (second.1 i lt) (iff_sym (cat_behind E a b (x ++ take (suc i) block))),
    )
sweep-holds none E x block s some few room now reached = (
  λ p lt. absurd (omega arith),
  λ i lt. (λ h. let never : false ≡ true = sym (has_bit-zero i) ∙ h in let no : ⊥ = cc (never) in absurd no, λ h. absurd h.4),
)
sweep-holds (alt a b) E x block s some few room now reached =
    let s1 : Pass = restart s.reached (sweep a block s) in
    let place1 : s1.place ≡ s.place + places a = sweep-place a block s in
    let first = sweep-holds a E x block s some few (omega arith)
    (λ p lt. iff_trans (now p (omega arith)) (alt_left E a b x p lt)) reached in
    let second = sweep-holds b E x block s1 some few (omega (arith, sweep-length a block s, place1))
    (λ q lt. let e : s.place + (places a + q) ≡ s1.place + q = omega (arith, place1) in
    bit_is _ _ (sweep-outside a block s (s1.place + q) (inr (omega (arith, place1))) ∙ ap (λ z. get_or s.live z false) (sym e))
    (iff_trans (now (places a + q) (omega arith)) (alt_right E a b x q))) reached in (
      split_places (λ p. IsTrue (get_or (sweep b block s1).live (s.place + p) false) ↔ LiveAfter E (alt a b) (x ++ block) p)
          (places a) (places b)
          (λ p lt. bit_is _ _ (sweep-outside b block s1 (s.place + p) (inl (omega (arith, place1))))
          (iff_trans (first.0 p lt) (iff_sym (alt_left E a b (x ++ block) p lt))))
          (λ q lt. let e : s.place + (places a + q) ≡ s1.place + q = omega (arith, place1) in
          bit_is _ _ (ap (λ z. get_or (sweep b block s1).live z false) e)
          (iff_trans (second.0 q lt) (iff_sym (alt_right E a b (x ++ block) q)))),
      λ i lt. bit_is _ _ (has_bit-or (sweep a block s).reached (sweep b block s1).reached i)
          (iff_trans (or_both (has_bit (sweep a block s).reached i) (has_bit (sweep b block s1).reached i) (first.1 i lt) (second.1 i lt))
          (iff_sym (alt_behind E a b (x ++ take (suc i) block)))),
    )
