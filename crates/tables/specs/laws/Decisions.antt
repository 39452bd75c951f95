-- Facts that hold or don't, and the least place of a list where one doesn't.
use Rattle.std.proofs.Common.{◌≡◌, ℕ, zero, suc, ◌<◌, ◌⊎◌, inl, inr, ⊎_elim, List, [], ◌∷◌, Some, length, get_or, slice_get, refl}
use Rattle.std.proofs.Common.{sym, ◌∙◌, subst, arith}
use Rattle.std.proofs.lemmas.Bool.{cases_lt}
use Rattle.std.proofs.lemmas.Option.{same_Some, slice_get_within, slice_get-get_or}
use Rattle.tables.specs.Bounds.{InLimits, IsShaped, IsTooDeep, most_cells, most_records, row_length, most_states}
use Rattle.tables.specs.Tables.{Table, state_count, cell_count}

-- the fact holds, or it doesn't
abbrev pub Decided : Type 0 → Type 0
Decided A = A ⊎ (¬ A)

pub decided_equal : (m n : ℕ) → Decided (m ≡ n)
decided_equal m n = ⊎_elim
    (λ lt. inr (λ e. omega (arith, lt, e)))
    (λ le. ⊎_elim (λ lt. inr (λ e. omega (arith, lt, e))) (λ ge. inl (omega (arith, le, ge))) (cases_lt n m))
    (cases_lt m n)

pub decided_list : (xs ys : List ℕ) → Decided (xs ≡ ys)
decided_list [] [] = inl refl
decided_list [] (y ∷ ys) = inr (λ e. cc e)
decided_list (x ∷ xs) [] = inr (λ e. cc e)
decided_list (x ∷ xs) (y ∷ ys) = ⊎_elim
    (λ e. ⊎_elim (λ f. inl (cc (e, f))) (λ no. inr (λ h. no (cc h))) (decided_list xs ys))
    (λ no. inr (λ h. no (cc h)))
    (decided_equal x y)

pub decided_limits : (s c r : ℕ) → Decided (InLimits s c r)
decided_limits s c r = ⊎_elim
    (λ lt. inr (λ h. omega (arith, lt, h.two_states)))
    (λ a. ⊎_elim
    (λ lt. inr (λ h. omega (arith, lt, h.states_fit)))
    (λ b. ⊎_elim
    (λ lt. inr (λ h. omega (arith, lt, h.one_row)))
    (λ d. ⊎_elim
    (λ lt. inr (λ h. omega (arith, lt, h.cells_fit)))
    (λ e. ⊎_elim
    (λ lt. inr (λ h. omega (arith, lt, h.one_record)))
    (λ f. ⊎_elim
    (λ lt. inr (λ h. omega (arith, lt, h.records_fit)))
    (λ g. inl (record { two_states = a; states_fit = b; one_row = d; cells_fit = e; one_record = f; records_fit = g }))
    (cases_lt most_records r))
    (cases_lt r 1))
    (cases_lt most_cells c))
    (cases_lt c row_length))
    (cases_lt most_states s))
    (cases_lt s 2)

pub decided_shaped : (t : Table) → Decided (IsShaped t)
decided_shaped t = ⊎_elim
    (λ a. ⊎_elim
    (λ b. ⊎_elim
    (λ d. ⊎_elim
    (λ e. inl (record { bases = a; accepts = b; checks = d; depths = e }))
    (λ no. inr (λ h. no h.depths))
    (decided_equal (length t.depth) (state_count t)))
    (λ no. inr (λ h. no h.checks))
    (decided_equal (length t.check) (cell_count t)))
    (λ no. inr (λ h. no h.accepts))
    (decided_equal (length t.accept) (state_count t)))
    (λ no. inr (λ h. no h.bases))
    (decided_equal (length t.base) (state_count t))

-- each number below the bound has the first property, or the least that hasn't has the second
pub all_or_least : (P Q : ℕ → Type 0) (n : ℕ) → ((i : ℕ) → i < n → P i ⊎ Q i) →
    ((i : ℕ) → i < n → P i) ⊎ ((i : ℕ) × Q i × ((j : ℕ) → j < i → P j))
all_or_least P Q zero h = inl (λ i lt. absurd (omega (arith, lt)))
all_or_least P Q (suc n) h = ⊎_elim
    (λ all. ⊎_elim (λ p. inl (more all p)) (λ q. inr (n, q, all)) (h n (omega arith)))
    (λ some. inr some)
    (all_or_least P Q n (λ i lt. h i (omega (arith, lt))))
  where
    more : ((i : ℕ) → i < n → P i) → P n → (i : ℕ) → i < suc n → P i
    more all p i lt = ⊎_elim
        (λ low. all i low)
        (λ past. let e : n ≡ i = omega (arith, past, lt) in subst P e p)
        (cases_lt i n)

-- each number of a list has the first property, or the first number that hasn't has the second
pub entries_outcome : (xs : List ℕ) (Low Past : ℕ → Type 0) → ((n : ℕ) → Low n ⊎ Past n) →
    ((i n : ℕ) → slice_get xs i ≡ Some n → Low n)
    ⊎ ((i : ℕ) × ((n : ℕ) × (slice_get xs i ≡ Some n) × Past n) × ((j n : ℕ) → j < i → slice_get xs j ≡ Some n → Low n))
entries_outcome xs Low Past d = ⊎_elim
    (λ all. inl (λ i n at. all i (slice_get_within xs i n at) n at))
    (λ some. inr (some.0, some.1, λ j n lt at. some.2 j lt n at))
    (all_or_least (λ i. (n : ℕ) → slice_get xs i ≡ Some n → Low n) (λ i. (n : ℕ) × (slice_get xs i ≡ Some n) × Past n) (length xs) entry)
  where
    entry : (i : ℕ) → i < length xs → ((n : ℕ) → slice_get xs i ≡ Some n → Low n) ⊎ ((n : ℕ) × (slice_get xs i ≡ Some n) × Past n)
    entry i lt =
        let at : slice_get xs i ≡ Some (get_or xs i 0) = slice_get-get_or xs i 0 lt in
        ⊎_elim
        (λ low. inl (λ n here. subst Low (same_Some (get_or xs i 0) n (sym at ∙ here)) low))
        (λ past. inr (get_or xs i 0, at, past))
        (d (get_or xs i 0))

-- the same where what is asked of a number depends on its place
pub places_outcome : (xs : List ℕ) (Low Past : ℕ → ℕ → Type 0) → ((i n : ℕ) → slice_get xs i ≡ Some n → Low i n ⊎ Past i n) →
    ((i n : ℕ) → slice_get xs i ≡ Some n → Low i n)
    ⊎ ((i : ℕ) × ((n : ℕ) × (slice_get xs i ≡ Some n) × Past i n) × ((j n : ℕ) → j < i → slice_get xs j ≡ Some n → Low j n))
places_outcome xs Low Past d = ⊎_elim
    (λ all. inl (λ i n at. all i (slice_get_within xs i n at) n at))
    (λ some. inr (some.0, some.1, λ j n lt at. some.2 j lt n at))
    (all_or_least (λ i. (n : ℕ) → slice_get xs i ≡ Some n → Low i n) (λ i. (n : ℕ) × (slice_get xs i ≡ Some n) × Past i n) (length xs)
    entry)
  where
    entry : (i : ℕ) → i < length xs → ((n : ℕ) → slice_get xs i ≡ Some n → Low i n) ⊎ ((n : ℕ) × (slice_get xs i ≡ Some n) × Past i n)
    entry i lt =
        let at : slice_get xs i ≡ Some (get_or xs i 0) = slice_get-get_or xs i 0 lt in
        ⊎_elim
        (λ low. inl (λ n here. subst (Low i) (same_Some (get_or xs i 0) n (sym at ∙ here)) low))
        (λ past. inr (get_or xs i 0, at, past))
        (d i (get_or xs i 0) at)

-- a state is too deep, or it isn't
pub deep_or_not : (t : Table) → IsShaped t → ((s n : ℕ) → slice_get t.default s ≡ Some n → n < state_count t) →
    (s d : ℕ) → slice_get t.depth s ≡ Some d → (¬ (IsTooDeep t s d)) ⊎ IsTooDeep t s d
deep_or_not t shaped defaults s d at =
    let within : s < length t.depth = slice_get_within t.depth s d at in
    let n : ℕ = get_or t.default s 0 in
    let default : slice_get t.default s ≡ Some (get_or t.default s 0) =
    slice_get-get_or t.default s 0 (omega (arith, within, shaped.depths)) in
    let low : n < state_count t = defaults s n default in
    let e : ℕ = get_or t.depth n 0 in
    let depth : slice_get t.depth n ≡ Some (get_or t.depth n 0) = slice_get-get_or t.depth n 0 (omega (arith, low, shaped.depths)) in
    ⊎_elim
    (λ over. inr (inl over))
    (λ le. ⊎_elim
    (λ some. ⊎_elim
    (λ falls. inl (λ deep. ⊎_elim
    (λ over. omega (arith, le, over))
    (λ w. let same_default : n ≡ w.1 = same_Some n w.1 (sym default ∙ w.2) in
    let same_depth : e ≡ w.3 = same_Some e w.3 (sym depth ∙ subst (λ z. slice_get t.depth z ≡ Some w.3) (sym same_default) w.4) in
    omega (arith, falls, same_depth, w.5))
    deep))
    (λ no. inr (inr (some, n, default, e, depth, no)))
    (cases_lt e d))
    (λ none. inl (λ deep. ⊎_elim (λ over. omega (arith, le, over)) (λ w. omega (arith, none, w.0)) deep))
    (cases_lt 0 d))
    (cases_lt t.depth_bound d)
