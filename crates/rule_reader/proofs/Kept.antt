-- What more bytes after a text leave unchanged: a part that was read with enough left over is read the same whatever follows, and
-- where a part has a settled fault it has a fault whatever follows.
use Rattle.std.proofs.Common.{◌≡◌, ℕ, Bool, true, false, cond, List, [], ◌∷◌, ◌++◌, Option, Some, None, Result, Ok, Err, refl, sym, ap}
use Rattle.std.proofs.Common.{subst, ◌∙◌}
use Rattle.rule_reader.specs.declared.reader.local_fault.LocalFault.{LocalFault}
use Rattle.rule_reader.specs.ReadSteps.{◌>>=◌, goes_on}

abbrev pub IsFault : {A : Type 0} → Result A LocalFault → Type 0
IsFault y = (s : LocalFault) × (y ≡ Err s)

-- something is claimed of a value with enough left over, and of a settled fault
abbrev pub claims : {A : Type 0} → (A → Bool) → Result A LocalFault → Bool
claims enough (Ok a) = enough a
claims enough (Err s) = s.settled

-- the same value, with more left over, or a fault
abbrev pub Same : {A : Type 0} → (A → A) → Result A LocalFault → Result A LocalFault → Type 0
Same put (Ok a) y = y ≡ Ok (put a)
Same put (Err s) y = IsFault y

-- what is claimed of x (a part read alone) holds of y (the part with more bytes after it)
pub record Kept {A : Type 0} (put : A → A) (enough : A → Bool) (x y : Result A LocalFault) : Type 0 where
  pub same : claims enough x ≡ true → Same put x y

-- ---- by cases

pub by_test : {P : Type 0} (t : Bool) → (t ≡ true → P) → (t ≡ false → P) → P
by_test true on off = on refl
by_test false on off = off refl

pub both : {P : Type 0} → true ≡ false → P
both e = absurd cc

-- ---- simple answers

-- nothing is claimed
pub nothing : {A : Type 0} {put : A → A} {enough : A → Bool} {x y : Result A LocalFault} → claims enough x ≡ false → Kept put enough x y
nothing none = record { same = λ h. both (sym h ∙ none) }

-- a value that is known
pub known : {A : Type 0} {put : A → A} {enough : A → Bool} {a b : A} → (enough a ≡ true → b ≡ put a) → Kept put enough (Ok a) (Ok b)
known h = record { same = λ some. ap (λ x. Ok x) (h some) }

-- faults on both sides
pub stays : {A : Type 0} {put : A → A} {enough : A → Bool} {s t : LocalFault} → Kept put enough (Err s) (Err t)
stays {t = t} = record { same = λ _. (t, refl) }

pub faults : {A : Type 0} {put : A → A} {enough : A → Bool} {x y : Result A LocalFault} → IsFault x → IsFault y → Kept put enough x y
faults {put = put} {enough = enough} {y = y} f g = subst (λ x. Kept put enough x y) (sym f.1) (record { same = λ _. g })

pub stop_is : {A : Type 0} {s : LocalFault} → IsFault {A = A} (Err s)
stop_is {s = s} = (s, refl)

pub fault_if : {A : Type 0} {x y : Result A LocalFault} (t : Bool) → IsFault x → IsFault y → IsFault (cond t x y)
fault_if true f g = f
fault_if false f g = g

-- one test on both sides
pub kept_if : {A : Type 0} {put : A → A} {enough : A → Bool} {x1 x2 y1 y2 : Result A LocalFault} (t : Bool)
    → (t ≡ true → Kept put enough x1 y1) → (t ≡ false → Kept put enough x2 y2) → Kept put enough (cond t x1 x2) (cond t y1 y2)
kept_if true on off = on refl
kept_if false on off = off refl

abbrev pub by_option : {X A : Type 0} → Option X → Result A LocalFault → (X → Result A LocalFault) → Result A LocalFault
by_option o x f = elim o [ None ↦ x | Some v ↦ f v ]

pub kept_option : {X A : Type 0} {put : A → A} {enough : A → Bool} {x y : Result A LocalFault} (f g : X → Result A LocalFault)
    (o : Option X)
    → Kept put enough x y → ((v : X) → Kept put enough (f v) (g v)) → Kept put enough (by_option o x f) (by_option o y g)
kept_option f g None h k = h
kept_option f g (Some v) h k = k v

-- where less is claimed
pub kept_less : {A : Type 0} {put : A → A} {enough less : A → Bool} {x y : Result A LocalFault}
    → ((a : A) → less a ≡ true → enough a ≡ true) → Kept put enough x y → Kept put less x y
kept_less {x = Ok a} weaker h = record { same = λ some. h.same (weaker a some) }
kept_less {x = Err s} weaker h = record { same = λ settled. h.same settled }

-- ---- one part after another

pub fault_goes_on : {A B : Type 0} (y : Result A LocalFault) (k : A → Result B LocalFault) → IsFault y → IsFault (y >>= k)
fault_goes_on y k f = (f.0, ap (λ r. r >>= k) f.1)

-- where nothing is claimed of the first part, nothing is of both
pub none_claimed : {A B : Type 0} (ea : A → Bool) (eb : B → Bool) (x : Result A LocalFault) (k : A → Result B LocalFault)
    → claims ea x ≡ false → ((a : A) → ea a ≡ false → claims eb (k a) ≡ false) → claims eb (x >>= k) ≡ false
none_claimed ea eb (Ok a) k none after = after a none
none_claimed ea eb (Err s) k none after = none

-- The second part is kept after what the first left over; where that is too little, nothing is claimed of the second.
pub kept_bind : {A B : Type 0} {pa : A → A} {ea : A → Bool} {pb : B → B} {eb : B → Bool} {x y : Result A LocalFault}
    (k l : A → Result B LocalFault)
    → Kept pa ea x y → ((a : A) → ea a ≡ true → Kept pb eb (k a) (l (pa a))) → ((a : A) → ea a ≡ false → claims eb (k a) ≡ false)
    → Kept pb eb (x >>= k) (y >>= l)
kept_bind {pa = pa} {ea = ea} {pb = pb} {eb = eb} {x = Ok a} {y = y} k l h more none =
    by_test (ea a)
    (λ some. subst (λ r. Kept pb eb (k a) (r >>= l)) (sym (h.same some)) (more a some))
    (λ out. nothing (none a out))
kept_bind {x = Err s} {y = y} k l h more none = record { same = λ settled. fault_goes_on y l (h.same settled) }

-- what is claimed may be used
pub kept_when : {A : Type 0} {put : A → A} {enough : A → Bool} {x y : Result A LocalFault} →
    (claims enough x ≡ true → Kept put enough x y) → Kept put enough x y
kept_when h = record { same = λ some. (h some).same some }

-- ---- a part that answers the bytes left over, or a value and them

abbrev pub then_bytes : List ℕ → List ℕ → List ℕ
then_bytes more rest = rest ++ more

abbrev pub then_more : {V : Type 0} → List ℕ → V × List ℕ → V × List ℕ
then_more more x = (x.0, x.1 ++ more)

abbrev pub with_rest : {V : Type 0} → V → List ℕ → V × List ℕ
with_rest v rest = (v, rest)

abbrev pub some_over : {V : Type 0} → V × List ℕ → Bool
some_over x = goes_on x.1

abbrev pub KeptBytes : List ℕ → Result (List ℕ) LocalFault → Result (List ℕ) LocalFault → Type 0
KeptBytes more x y = Kept (then_bytes more) goes_on x y

abbrev pub KeptPair : {V : Type 0} → List ℕ → Result (V × List ℕ) LocalFault → Result (V × List ℕ) LocalFault → Type 0
KeptPair more x y = Kept (then_more more) some_over x y

-- nothing is left over
pub ends_here : (P : List ℕ → Type 0) (rest : List ℕ) → goes_on rest ≡ false → P [] → P rest
ends_here P [] end p = p
ends_here P (b ∷ rest) end p = both end

pub after_bytes : {B : Type 0} {more : List ℕ} {pb : B → B} {eb : B → Bool} {x y : Result (List ℕ) LocalFault}
    (k l : List ℕ → Result B LocalFault)
    → KeptBytes more x y → ((rest : List ℕ) → Kept pb eb (k rest) (l (rest ++ more))) → claims eb (k []) ≡ false →
    Kept pb eb (x >>= k) (y >>= l)
after_bytes {eb = eb} k l h next none = kept_bind k l h (λ rest _. next rest)
    (λ rest end. ends_here (λ r. claims eb (k r) ≡ false) rest end none)

pub after_pair : {V B : Type 0} {more : List ℕ} {pb : B → B} {eb : B → Bool} {x y : Result (V × List ℕ) LocalFault}
    (k l : V × List ℕ → Result B LocalFault)
    → KeptPair more x y → ((v : V) (rest : List ℕ) → Kept pb eb (k (v, rest)) (l (v, rest ++ more))) →
    ((v : V) → claims eb (k (v, [])) ≡ false) → Kept pb eb (x >>= k) (y >>= l)
after_pair {eb = eb} k l h next none = kept_bind k l h (λ a _. next a.0 a.1)
    (λ a end. ends_here (λ r. claims eb (k (a.0, r)) ≡ false) a.1 end (none a.0))
