-- Entries and places that were there stay what they are when more are pushed, and what is live at an entry stays so.
use Rattle.std.proofs.Common.{[], ◌≡◌, ℕ, zero, suc, ◌+◌, ◌<◌, ◌≤◌, inl, inr, ⊎_elim, List, ◌∷◌, ◌++◌, length, refl, sym, ap, ◌∙◌, arith}
use Rattle.std.proofs.Common.{None, Some}
use Rattle.std.specs.List.{slice_get}
use Rattle.std.proofs.lemmas.Option.{slice_get_within}
use Rattle.rule_globs.specs.Glob.{Glob, empty, one, run, cat, none, alt, places}
use Rattle.rule_globs.specs.Follow.{Numbers, Starts, TakesAt, Goes}
use Rattle.glob_automaton.specs.inner.Chart.{IsIn, at_place, at_run, past_run, one_side, other_side, IsOrdered}
use Rattle.glob_automaton.specs.declared.chart.Entry.{Entry}
use Rattle.glob_automaton.specs.declared.chart.Entry.TheVariants as entry

-- an element is there or not
pub none_is_some : {X : Type 0} (x : X) → None ≡ Some x → ⊥
none_is_some x h = absurd (cc h)

-- an element of the first list is one of both lists
pub get_left : {X : Type 0} (xs more : List X) (i : ℕ) → i < length xs → slice_get (xs ++ more) i ≡ slice_get xs i
get_left [] more i lt = absurd (omega (arith, lt))
get_left (x ∷ xs) more zero lt = refl
get_left (x ∷ xs) more (suc i) lt = get_left xs more i (omega (arith, lt))

-- after the first list is the one additional element
pub get_last : {X : Type 0} (xs : List X) (x : X) → slice_get (xs ++ x ∷ []) (length xs) ≡ Some x
get_last [] x = refl
get_last (y ∷ xs) x = get_last xs x

-- and nothing else
pub get_right : {X : Type 0} (xs : List X) (x y : X) (i : ℕ) → length xs ≤ i → slice_get (xs ++ x ∷ []) i ≡ Some y →
    (i ≡ length xs) × (x ≡ y)
get_right [] x y zero le h = (refl, cc h)
get_right [] x y (suc i) le h = absurd (none_is_some y h)
get_right (z ∷ xs) x y zero le h = absurd (omega (arith, le))
get_right (z ∷ xs) x y (suc i) le h =
    let w = get_right xs x y i (omega (arith, le)) h in (ap suc w.0, w.1)

-- the entries of the first list are those of the second
abbrev pub Agree : List Entry → List Entry → Type 0
Agree old new = (e : ℕ) → e < length old → slice_get new e ≡ slice_get old e

-- what is live at an entry that was there, was
pub was_in : (new old : List Entry) (e q : ℕ) → IsOrdered old → Agree old new → e < length old → IsIn new e q → IsIn old e q
was_in new old e q ordered agree lt (at_place _ _ _ h) = at_place old e q (sym (agree e lt) ∙ h)
was_in new old e q ordered agree lt (at_run _ _ _ behind h) = at_run old e q behind (sym (agree e lt) ∙ h)
was_in new old e q ordered agree lt (past_run _ _ p behind _ h more) =
    let same : slice_get old e ≡ Some (entry.Run p behind) = sym (agree e lt) ∙ h in
    let below : behind < e = ordered e (entry.Run p behind) same in
    past_run old e p behind q same (was_in new old behind q ordered agree (omega (arith, below, lt)) more)
was_in new old e q ordered agree lt (one_side _ _ first other _ h more) =
    let same : slice_get old e ≡ Some (entry.Either first other) = sym (agree e lt) ∙ h in
    let below : (first < e) × (other < e) = ordered e (entry.Either first other) same in
    one_side old e first other q same (was_in new old first q ordered agree (omega (arith, below.0, lt)) more)
was_in new old e q ordered agree lt (other_side _ _ first other _ h more) =
    let same : slice_get old e ≡ Some (entry.Either first other) = sym (agree e lt) ∙ h in
    let below : (first < e) × (other < e) = ordered e (entry.Either first other) same in
    other_side old e first other q same (was_in new old other q ordered agree (omega (arith, below.1, lt)) more)

-- and what was live is
pub still_in : (new old : List Entry) (e q : ℕ) → Agree old new → IsIn old e q → IsIn new e q
still_in new old e q agree (at_place _ _ _ h) = at_place new e q (agree e (slice_get_within old e _ h) ∙ h)
still_in new old e q agree (at_run _ _ _ behind h) = at_run new e q behind (agree e (slice_get_within old e _ h) ∙ h)
still_in new old e q agree (past_run _ _ p behind _ h more) =
    past_run new e p behind q (agree e (slice_get_within old e _ h) ∙ h) (still_in new old behind q agree more)
still_in new old e q agree (one_side _ _ first other _ h more) =
    one_side new e first other q (agree e (slice_get_within old e _ h) ∙ h) (still_in new old first q agree more)
still_in new old e q agree (other_side _ _ first other _ h more) =
    other_side new e first other q (agree e (slice_get_within old e _ h) ∙ h) (still_in new old other q agree more)

-- What is live after a pattern counts by the numbers alone.
pub starts_by : (g : Glob) (base : ℕ) (K L : Numbers) → ((q : ℕ) → K q → L q) → (q : ℕ) → Starts g base K q → Starts g base L q
starts_by empty base K L f q h = f q h
starts_by (one set) base K L f q h = h
starts_by (run set) base K L f q (inl h) = inl h
starts_by (run set) base K L f q (inr h) = inr (f q h)
starts_by (cat a b) base K L f q h =
    starts_by a (base + places b) (Starts b base K) (Starts b base L) (λ r. starts_by b base K L f r) q h
starts_by none base K L f q h = absurd h
starts_by (alt a b) base K L f q (inl h) = inl (starts_by a (base + places b) K L f q h)
starts_by (alt a b) base K L f q (inr h) = inr (starts_by b base K L f q h)

-- so does where its places lead
pub goes_by : (g : Glob) (base : ℕ) (K L : Numbers) → ((q : ℕ) → K q → L q) → (p q : ℕ) → Goes g base K p q → Goes g base L p q
goes_by empty base K L f p q h = absurd h
goes_by (one set) base K L f p q h = (h.0, f q h.1)
goes_by (run set) base K L f p q h = (h.0, ⊎_elim (λ t. inl t) (λ t. inr (f q t)) h.1)
goes_by (cat a b) base K L f p q (inl h) =
    inl (goes_by a (base + places b) (Starts b base K) (Starts b base L) (λ r. starts_by b base K L f r) p q h)
goes_by (cat a b) base K L f p q (inr h) = inr (goes_by b base K L f p q h)
goes_by none base K L f p q h = absurd h
goes_by (alt a b) base K L f p q (inl h) = inl (goes_by a (base + places b) K L f p q h)
goes_by (alt a b) base K L f p q (inr h) = inr (goes_by b base K L f p q h)

-- a place that takes a byte is one of the pattern's
pub takes_own : (g : Glob) (base m b : ℕ) → TakesAt g base m b → (base ≤ m) × (m < base + places g)
takes_own empty base m b h = absurd h
takes_own (one set) base m b h = (omega (arith, h.0), omega (arith, h.0))
takes_own (run set) base m b h = (omega (arith, h.0), omega (arith, h.0))
takes_own (cat first second) base m b (inl h) =
    let w = takes_own first (base + places second) m b h in (omega (arith, w.0), omega (arith, w.1))
takes_own (cat first second) base m b (inr h) =
    let w = takes_own second base m b h in (w.0, omega (arith, w.1))
takes_own none base m b h = absurd h
takes_own (alt first second) base m b (inl h) =
    let w = takes_own first (base + places second) m b h in (omega (arith, w.0), omega (arith, w.1))
takes_own (alt first second) base m b (inr h) =
    let w = takes_own second base m b h in (w.0, omega (arith, w.1))

-- a place that leads on is one of the pattern's
pub goes_own : (g : Glob) (base : ℕ) (behind : Numbers) (m q : ℕ) → Goes g base behind m q → (base ≤ m) × (m < base + places g)
goes_own empty base behind m q h = absurd h
goes_own (one set) base behind m q h = (omega (arith, h.0), omega (arith, h.0))
goes_own (run set) base behind m q h = (omega (arith, h.0), omega (arith, h.0))
goes_own (cat a b) base behind m q (inl h) =
    let w = goes_own a (base + places b) (Starts b base behind) m q h in (omega (arith, w.0), omega (arith, w.1))
goes_own (cat a b) base behind m q (inr h) =
    let w = goes_own b base behind m q h in (w.0, omega (arith, w.1))
goes_own none base behind m q h = absurd h
goes_own (alt a b) base behind m q (inl h) =
    let w = goes_own a (base + places b) behind m q h in (omega (arith, w.0), omega (arith, w.1))
goes_own (alt a b) base behind m q (inr h) =
    let w = goes_own b base behind m q h in (w.0, omega (arith, w.1))
