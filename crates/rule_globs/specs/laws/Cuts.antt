-- Trying each cut finds out whether a pattern matches some bytes; and byte 0 is never matched.
use Rattle.std.proofs.Common.{◌≡◌, ◌≢◌, ℕ, ◌<◌, Bool, true, false, ◌&&◌, ◌||◌, ◌↔◌, inl, inr, ⊎_elim, List, [], ◌∷◌, ◌++◌, map, nat_lt}
use Rattle.std.proofs.Common.{IsTrue, All, refl, sym, ap, ◌∙◌, subst, arith}
use Rattle.std.specs.List.{list_all, list_any}
use Rattle.std.proofs.lemmas.Bool.{and_parts, and_from, or_cases, or_left, or_right, ltb-true}
use Rattle.std.proofs.lemmas.List.Elements.{All-nil, All-cons, All-append, All-same}
use Rattle.rule_globs.specs.Glob.{Glob, empty, one, run, cat, none, alt, ByteSet, fits, contains, Takes}
use Rattle.rule_globs.specs.PlainVerdict.{cuts, takes}

list_any-map : {X Y : Type 0} (test : Y → Bool) (f : X → Y) (xs : List X) → list_any test (map f xs) ≡ list_any (λ x. test (f x)) xs
list_any-map test f [] = refl
list_any-map test f (x ∷ xs) = ap (λ z. test (f x) || z) (list_any-map test f xs)

-- a cut that passes, from a test of all
cut_found : (test : List ℕ × List ℕ → Bool) (bytes : List ℕ) → list_any test (cuts bytes) ≡ true →
    (front : List ℕ) × (back : List ℕ) × (bytes ≡ front ++ back) × (test (front, back) ≡ true)
cut_found test [] h = ⊎_elim
    (λ t. ([], [], refl, t))
    (λ f. let e : ⊥ = cc (f) in absurd e)
    (or_cases (test ([], [])) false h)
cut_found test (b ∷ bytes) h = ⊎_elim
    (λ t. ([], b ∷ bytes, refl, t))
    (λ t.
    let w = cut_found (λ cut. test (b ∷ cut.0, cut.1)) bytes (sym (list_any-map test (λ cut. (b ∷ cut.0, cut.1)) (cuts bytes)) ∙ t) in
    (b ∷ w.0, w.1, ap (λ z. b ∷ z) w.2, w.3))
    (or_cases (test ([], b ∷ bytes)) (list_any test (map (λ cut. (b ∷ cut.0, cut.1)) (cuts bytes))) h)

-- each cut is tried
cut_tried : (test : List ℕ × List ℕ → Bool) (front back : List ℕ) → test (front, back) ≡ true → list_any test (cuts (front ++ back)) ≡ true
cut_tried test [] [] h = or_left (test ([], [])) false h
cut_tried test [] (b ∷ back) h = or_left (test ([], b ∷ back)) _ h
cut_tried test (b ∷ front) back h =
    or_right (test ([], b ∷ (front ++ back))) _
    (list_any-map test (λ cut. (b ∷ cut.0, cut.1)) (cuts (front ++ back)) ∙ cut_tried (λ cut. test (b ∷ cut.0, cut.1)) front back h)

one_by_cuts : (set : ByteSet) (bytes : List ℕ) → IsTrue (takes (one set) bytes) ↔ Takes (one set) bytes
one_by_cuts set [] = (λ h. let e : ⊥ = cc (h) in absurd e, λ h. let e : ⊥ = cc (h.1) in absurd e)
one_by_cuts set (b ∷ []) = (
  λ h. (b, refl, h),
  λ h. let e : h.0 ≡ b = cc (h.1) in subst (λ z. IsTrue (fits set z)) e h.2,
)
one_by_cuts set (b ∷ c ∷ bytes) = (λ h. let e : ⊥ = cc (h) in absurd e, λ h. let e : ⊥ = cc (h.1) in absurd e)

empty_by_cuts : (bytes : List ℕ) → IsTrue (takes empty bytes) ↔ Takes empty bytes
empty_by_cuts [] = (λ h. refl, λ h. refl)
empty_by_cuts (b ∷ bytes) = (λ h. let e : ⊥ = cc (h) in absurd e, λ h. let e : ⊥ = cc (h) in absurd e)

pub by_cuts : (g : Glob) (bytes : List ℕ) → IsTrue (takes g bytes) ↔ Takes g bytes
by_cuts empty bytes = empty_by_cuts bytes
by_cuts (one set) bytes = one_by_cuts set bytes
by_cuts (run set) bytes = (λ h. h, λ h. h)
by_cuts (cat a b) bytes = (
  λ h. let w = cut_found (λ cut. takes a cut.0 && takes b cut.1) bytes h in
      let both = and_parts (takes a w.0) (takes b w.1) w.3 in
      (w.0, w.1, w.2, (by_cuts a w.0).0 both.0, (by_cuts b w.1).0 both.1),
  λ h. subst (λ z. IsTrue (takes (cat a b) z)) (sym h.2)
      (cut_tried (λ cut. takes a cut.0 && takes b cut.1) h.0 h.1
      (and_from (takes a h.0) (takes b h.1) ((by_cuts a h.0).1 h.3) ((by_cuts b h.1).1 h.4))),
)
by_cuts none bytes = (λ h. let e : ⊥ = cc (h) in absurd e, λ h. absurd h)
by_cuts (alt a b) bytes = (
  λ h. ⊎_elim (λ t. inl ((by_cuts a bytes).0 t)) (λ t. inr ((by_cuts b bytes).0 t)) (or_cases (takes a bytes) (takes b bytes) h),
  ⊎_elim (λ t. or_left (takes a bytes) (takes b bytes) ((by_cuts a bytes).1 t))
      (λ t. or_right (takes a bytes) (takes b bytes) ((by_cuts b bytes).1 t)),
)

not_zero : (set : ByteSet) (b : ℕ) → fits set b ≡ true → b ≢ 0
not_zero set b h =
    let above : 0 < b = ltb-true 0 b (and_parts (nat_lt 0 b) (contains set b) h).0 in λ e. omega arith

run_not_zero : (set : ByteSet) (bytes : List ℕ) → list_all (fits set) bytes ≡ true → All (λ b. b ≢ 0) bytes
run_not_zero set [] h = All-nil (λ b. b ≢ 0)
run_not_zero set (b ∷ bytes) h =
    let both = and_parts (fits set b) (list_all (fits set) bytes) h in
    All-cons (λ c. c ≢ 0) b bytes (not_zero set b both.0) (run_not_zero set bytes both.1)

pub zero_never : (g : Glob) (bytes : List ℕ) → Takes g bytes → All (λ b. b ≢ 0) bytes
zero_never empty bytes h = All-same (λ b. b ≢ 0) bytes [] h (All-nil (λ b. b ≢ 0))
zero_never (one set) bytes h =
    All-same (λ b. b ≢ 0) bytes (h.0 ∷ []) h.1 (All-cons (λ b. b ≢ 0) h.0 [] (not_zero set h.0 h.2) (All-nil (λ b. b ≢ 0)))
zero_never (run set) bytes h = run_not_zero set bytes h
zero_never (cat a b) bytes h =
    All-same (λ c. c ≢ 0) bytes (h.0 ++ h.1) h.2 (All-append (λ c. c ≢ 0) h.0 h.1 (zero_never a h.0 h.3) (zero_never b h.1 h.4))
zero_never none bytes h = absurd h
zero_never (alt a b) bytes h = ⊎_elim (λ t. zero_never a bytes t) (λ t. zero_never b bytes t) h
