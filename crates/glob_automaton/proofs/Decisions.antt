-- Facts that hold or don't: how to find out of what is made of them.
use Rattle.std.proofs.Common.{◌≡◌, ℕ, zero, suc, ◌+◌, ◌-◌, ◌<◌, ◌≤◌, Bool, true, false, ◌↔◌, ◌⊎◌, inl, inr, ⊎_elim, List, [], ◌∷◌, ◌++◌}
use Rattle.std.proofs.Common.{IsTrue, refl, sym, ap, subst, arith}
use Rattle.std.proofs.lemmas.Bool.{cases_lt}

-- the fact holds, or it doesn't
abbrev pub Decided : Type 0 → Type 0
Decided A = A ⊎ (¬ A)

-- a test that says which
pub told : (A : Type 0) → Decided A → Bool
told A (inl h) = true
told A (inr h) = false

pub told_right : (A : Type 0) (d : Decided A) → IsTrue (told A d) ↔ A
unfolding told
told_right A (inl h) = (λ t. h, λ a. refl)
told_right A (inr h) = (λ t. absurd (cc t), λ a. absurd (h a))

pub decided_test : (b : Bool) → Decided (IsTrue b)
decided_test true = inl refl
decided_test false = inr (λ h. cc h)

pub decided_by : (A B : Type 0) → (A ↔ B) → Decided A → Decided B
decided_by A B same (inl h) = inl (same.0 h)
decided_by A B same (inr h) = inr (λ b. h (same.1 b))

pub decided_both : (A B : Type 0) → Decided A → Decided B → Decided (A × B)
decided_both A B (inl a) (inl b) = inl (a, b)
decided_both A B (inl a) (inr b) = inr (λ h. b h.1)
decided_both A B (inr a) d = inr (λ h. a h.0)

pub decided_either : (A B : Type 0) → Decided A → Decided B → Decided (A ⊎ B)
decided_either A B (inl a) d = inl (inl a)
decided_either A B (inr a) (inl b) = inl (inr b)
decided_either A B (inr a) (inr b) = inr (⊎_elim a b)

pub decided_not : (A : Type 0) → Decided A → Decided (¬ A)
decided_not A (inl a) = inr (λ h. h a)
decided_not A (inr a) = inl a

pub decided_same : (A B : Type 0) → Decided A → Decided B → Decided (A ↔ B)
decided_same A B (inl a) (inl b) = inl (λ h. b, λ h. a)
decided_same A B (inl a) (inr b) = inr (λ h. b (h.0 a))
decided_same A B (inr a) (inl b) = inr (λ h. a (h.1 b))
decided_same A B (inr a) (inr b) = inl (λ h. absurd (a h), λ h. absurd (b h))

pub decided_equal : (m n : ℕ) → Decided (m ≡ n)
decided_equal m n = ⊎_elim
    (λ lt. inr (λ e. omega (arith, lt, e)))
    (λ le. ⊎_elim (λ lt. inr (λ e. omega (arith, lt, e))) (λ ge. inl (omega (arith, le, ge))) (cases_lt n m))
    (cases_lt m n)

pub decided_empty : (bytes : List ℕ) → Decided (bytes ≡ [])
decided_empty [] = inl refl
decided_empty (b ∷ bytes) = inr (λ e. cc e)

-- ---- numbers

-- a fact about what is left of a number
pub decided_behind : (n p : ℕ) (P : ℕ → Type 0) → ((q : ℕ) → Decided (P q)) → Decided ((q : ℕ) × (p ≡ n + q) × P q)
decided_behind n p P d = ⊎_elim
    (λ lt. inr (λ h. omega (arith, lt, h.1)))
    (λ le. decided_by (P (p - n)) ((q : ℕ) × (p ≡ n + q) × P q) (
      λ h. (p - n, omega (arith, le), h),
      λ h. let e : h.0 ≡ p - n = omega (arith, h.1) in subst P e h.2,
    )
    (d (p - n)))
    (cases_lt p n)

-- each number below the bound has the one, or some number has the other
pub all_or_some : (P Q : ℕ → Type 0) (n : ℕ) → ((i : ℕ) → i < n → P i ⊎ Q i) →
    ((i : ℕ) → i < n → P i) ⊎ ((i : ℕ) × (i < n) × Q i)
all_or_some P Q zero h = inl (λ i lt. absurd (omega (arith, lt)))
all_or_some P Q (suc n) h = ⊎_elim
    (λ all. ⊎_elim (λ p. inl (more all p)) (λ q. inr (n, omega arith, q)) (h n (omega arith)))
    (λ some. inr (some.0, omega (arith, some.1), some.2))
    (all_or_some P Q n (λ i lt. h i (omega (arith, lt))))
  where
    more : ((i : ℕ) → i < n → P i) → P n → (i : ℕ) → i < suc n → P i
    more all p i lt = ⊎_elim
        (λ low. all i low)
        (λ past. let e : n ≡ i = omega (arith, past, lt) in subst P e p)
        (cases_lt i n)

pub decided_below : (P : ℕ → Type 0) (n : ℕ) → ((i : ℕ) → Decided (P i)) → Decided ((i : ℕ) → i < n → P i)
decided_below P n d = ⊎_elim
    (λ all. inl all)
    (λ some. inr (λ all. some.2 (all some.0 some.1)))
    (all_or_some P (λ i. ¬ (P i)) n (λ i lt. d i))

-- a fact about each two numbers, which holds past two bounds
pub decided_pairs : (P : ℕ → ℕ → Type 0) (m n : ℕ) → ((i j : ℕ) → Decided (P i j)) →
    ((i j : ℕ) → (m ≤ i) ⊎ (n ≤ j) → P i j) → Decided ((i j : ℕ) → P i j)
decided_pairs P m n d past =
    decided_by ((i : ℕ) → i < m → (j : ℕ) → j < n → P i j) ((i j : ℕ) → P i j) (
      λ all i j. ⊎_elim
          (λ low. ⊎_elim (λ short. all i low j short) (λ h. past i j (inr h)) (cases_lt j n))
          (λ h. past i j (inl h))
          (cases_lt i m),
      λ all i low j short. all i j,
    )
    (decided_below (λ i. (j : ℕ) → j < n → P i j) m (λ i. decided_below (P i) n (d i)))

-- ---- the ways to cut a list

-- a cut is before the first byte or after it
cut_cases : (P : List ℕ → List ℕ → Type 0) (b : ℕ) (bytes front back : List ℕ) → b ∷ bytes ≡ front ++ back → P front back →
    P [] (b ∷ bytes) ⊎ ((more : List ℕ) × (rest : List ℕ) × (bytes ≡ more ++ rest) × P (b ∷ more) rest)
cut_cases P b bytes [] back e h = inl (subst (λ z. P [] z) (sym e) h)
cut_cases P b bytes (c ∷ front) back e h =
    let first : c ≡ b = cc e in
    let rest : bytes ≡ front ++ back = cc e in
    inr (front, back, rest, subst (λ z. P (z ∷ front) back) first h)

cut_empty : (P : List ℕ → List ℕ → Type 0) (front back : List ℕ) → [] ≡ front ++ back → P front back → P [] []
cut_empty P [] back e h = subst (λ z. P [] z) (sym e) h
cut_empty P (c ∷ front) back e h = absurd (cc e)

pub decided_cut : (P : List ℕ → List ℕ → Type 0) → ((front back : List ℕ) → Decided (P front back)) → (bytes : List ℕ) →
    Decided ((front : List ℕ) × (back : List ℕ) × (bytes ≡ front ++ back) × P front back)
decided_cut P d [] = ⊎_elim
    (λ h. inl ([], [], refl, h))
    (λ no. inr (λ h. no (cut_empty P h.0 h.1 h.2 h.3)))
    (d [] [])
decided_cut P d (b ∷ bytes) = ⊎_elim
    (λ h. inl ([], b ∷ bytes, refl, h))
    (λ no. ⊎_elim
    (λ w. inl (b ∷ w.0, w.1, ap (λ z. b ∷ z) w.2, w.3))
    (λ none. inr (λ h. ⊎_elim no none (cut_cases P b bytes h.0 h.1 h.2 h.3)))
    (decided_cut (λ front back. P (b ∷ front) back) (λ front back. d (b ∷ front) back) bytes))
    (d [] (b ∷ bytes))
