-- Two ascending lists with the same members are one list.
use Rattle.std.proofs.Common.{◌≡◌, ℕ, zero, suc, ◌<◌, ◌⊎◌, ◌↔◌, inl, inr, ⊎_elim, List, [], ◌∷◌, refl, sym, ap₂, ◌∙◌, subst, arith}
use Rattle.std.specs.List.{Contains}
use Rattle.std.proofs.lemmas.List.{get_or_default}
use Rattle.glob_automaton.specs.inner.GatheredSets.{IsAscending}

-- a member is the first one or one of the others
contains_cases : (x : ℕ) (xs : List ℕ) (q : ℕ) → Contains (x ∷ xs) q → (x ≡ q) ⊎ Contains xs q
contains_cases x xs q (zero, lt, e) = inl e
contains_cases x xs q (suc k, lt, e) = inr (k, omega (arith, lt), e)

contains_first : (x : ℕ) (xs : List ℕ) → Contains (x ∷ xs) x
contains_first x xs = (0, omega arith, refl)

contains_more : (x : ℕ) (xs : List ℕ) (q : ℕ) → Contains xs q → Contains (x ∷ xs) q
contains_more x xs q h = (suc h.0, omega (arith, h.1), h.2)

pub contains_none : (q : ℕ) → ¬ (Contains [] q)
contains_none q h = omega (arith, h.1)

tail_ascends : (x : ℕ) (xs : List ℕ) → IsAscending (x ∷ xs) → IsAscending xs
tail_ascends x xs h i j lt within = h (suc i) (suc j) (omega (arith, lt)) (omega (arith, within))

-- the first is less than all others
first_least : (x : ℕ) (xs : List ℕ) → IsAscending (x ∷ xs) → (y : ℕ) → Contains xs y → x < y
first_least x xs h y at =
    subst (λ z. x < z) (get_or_default xs at.0 0 y at.1 ∙ at.2) (h 0 (suc at.0) (omega arith) (omega (arith, at.1)))

-- what is in the one is in the other, the first of both left out
others_in : (x : ℕ) (xs ys : List ℕ) → IsAscending (x ∷ xs) →
    ((q : ℕ) → Contains (x ∷ xs) q → Contains (x ∷ ys) q) → (q : ℕ) → Contains xs q → Contains ys q
others_in x xs ys up there q h = ⊎_elim
    (λ e. absurd (omega (arith, e, first_least x xs up q h)))
    (λ t. t)
    (contains_cases x ys q (there q (contains_more x xs q h)))

pub same_lists : (xs ys : List ℕ) → IsAscending xs → IsAscending ys → ((q : ℕ) → Contains xs q ↔ Contains ys q) → xs ≡ ys
same_lists [] [] up ups same = refl
same_lists [] (y ∷ ys) up ups same = absurd (contains_none y ((same y).1 (contains_first y ys)))
same_lists (x ∷ xs) [] up ups same = absurd (contains_none x ((same x).0 (contains_first x xs)))
same_lists (x ∷ xs) (y ∷ ys) up ups same =
    let one : x ≡ y = ⊎_elim
    (λ e. sym e)
    (λ t. ⊎_elim (λ e. e) (λ u. absurd (omega (arith, first_least y ys ups x t, first_least x xs up y u)))
    (contains_cases x xs y ((same y).1 (contains_first y ys))))
    (contains_cases y ys x ((same x).0 (contains_first x xs))) in
    let there : (q : ℕ) → Contains (x ∷ xs) q → Contains (x ∷ ys) q = λ q h. subst (λ z. Contains (z ∷ ys) q) (sym one) ((same q).0 h) in
    let back : (q : ℕ) → Contains (x ∷ ys) q → Contains (x ∷ xs) q = λ q h. (same q).1 (subst (λ z. Contains (z ∷ ys) q) one h) in
    let alike : xs ≡ ys = same_lists xs ys (tail_ascends x xs up) (tail_ascends y ys ups)
    (λ q. (others_in x xs ys up there q, others_in x ys xs (subst (λ z. IsAscending (z ∷ ys)) (sym one) ups) back q)) in
    ap₂ (λ a b. a ∷ b) one alike

-- a list without members is empty
pub no_members : (xs : List ℕ) → ((q : ℕ) → ¬ (Contains xs q)) → xs ≡ []
no_members [] h = refl
no_members (x ∷ xs) h = absurd (h x (contains_first x xs))

-- and a list that isn't empty has one
pub some_member : (xs : List ℕ) → ¬ (xs ≡ []) → (q : ℕ) × Contains xs q
some_member [] h = absurd (h refl)
some_member (x ∷ xs) h = (x, contains_first x xs)
