-- Eight seats, each with a name that is on its way.
use Rattle.std.proofs.Common.{◌≡◌, ℕ, zero, suc, ◌+◌, ◌-◌, ◌*◌, ◌<◌, ◌≤◌, List, [], ◌∷◌, Some, drop, get_or, length, slice_set}
use Rattle.std.proofs.Common.{take, refl, ap, sym, subst, ◌∙◌, ◌⊎◌, inl, inr, arith}
use Rattle.std.proofs.lemmas.List.{get_or-set_other}
use Rattle.std.proofs.lemmas.Grind.{get_or-set_at}
use Rattle.std.proofs.lemmas.Bool.{cases_eq}
use Rattle.tables.specs.Tables.{Table, state_after, state_count, state_from}
use Rattle.table_verifier.specs.Eight.{AreThere}
use Rattle.table_batches.specs.Batches.{AreOffsets, IsAfter, name_at}
use Rattle.table_batches.specs.declared.seats.Seats.{Seats}
use Rattle.table_batches.specs.inner.Seats.{AreUnderWay, first_seats as first_eight}
use Rattle.table_batches.specs.inner.Seats.{AreDone, AreLed, AreLeft, AreEach, IsSeat, IsUnseated, left_of, first_names, first_begins}
use Rattle.table_batches.specs.inner.Seats.{eight_starts}
use Rattle.table_batches.proofs.Sides.{eight, put_case, whole}

-- from the place that a name has reached
pub whole_at : (t : Table) (text : List ℕ) (o b e m n : ℕ) → o ≤ b → b ≤ e → state_after t (take (b - o) (drop o text)) ≡ Some m
    → state_from t m (take (e - b) (drop b text)) ≡ Some n → state_after t (take (e - o) (drop o text)) ≡ Some n
whole_at t text o b e m n below above here there =
    let same : b ≡ o + (b - o) = omega arith in
    whole t text o e (b - o) m n (omega arith) here (subst (λ (x : ℕ). state_from t m (take (e - x) (drop x text)) ≡ Some n) same there)

-- a name that has just sat down
pub new_seat : (t : Table) (text offsets : List ℕ) (count i : ℕ) → AreOffsets text offsets count → 1 < state_count t → i < count
    → IsSeat t text offsets count i (get_or offsets i 0) 1
new_seat t text offsets count i offs start lt =
    let none : get_or offsets i 0 - get_or offsets i 0 ≡ 0 = omega arith in
    record {
      there = start;
      named = lt;
      behind = omega arith;
      ahead = offs.ascend i lt;
      led = ap (λ (n : ℕ). state_after t (take n (drop (get_or offsets i 0) text))) none;
    }

pub first_seats : (t : Table) (text offsets : List ℕ) (count : ℕ) → AreOffsets text offsets count → 1 < state_count t → 8 ≤ count
    → AreEach t text offsets count first_names (first_begins offsets) eight_starts
first_seats t text offsets count offs start enough =
    eight (λ (k : ℕ). IsSeat t text offsets count (get_or first_names k 0) (get_or (first_begins offsets) k 0) (get_or eight_starts k 0))
    (new_seat t text offsets count 0 offs start (omega arith)) (new_seat t text offsets count 1 offs start (omega arith))
    (new_seat t text offsets count 2 offs start (omega arith)) (new_seat t text offsets count 3 offs start (omega arith))
    (new_seat t text offsets count 4 offs start (omega arith)) (new_seat t text offsets count 5 offs start (omega arith))
    (new_seat t text offsets count 6 offs start (omega arith)) (new_seat t text offsets count 7 offs start (omega arith))

named_itself : (k : ℕ) → k < 8 → get_or first_names k 0 ≡ k
named_itself k lt = eight (λ (j : ℕ). get_or first_names j 0 ≡ j) refl refl refl refl refl refl refl refl k lt

pub first_done : (t : Table) (text offsets states : List ℕ) → AreDone t text offsets 8 first_names 0 states
first_done t text offsets states = λ i s lt unseated at. absurd (unseated i (omega arith) lt (named_itself i lt))

-- eight places, each this number of bytes ahead
abbrev pub ahead_of : List ℕ → ℕ → List ℕ
ahead_of begins shared =
    (get_or begins 0 0 + shared) ∷ (get_or begins 1 0 + shared) ∷ (get_or begins 2 0 + shared) ∷ (get_or begins 3 0 + shared)
    ∷ (get_or begins 4 0 + shared) ∷ (get_or begins 5 0 + shared) ∷ (get_or begins 6 0 + shared) ∷ (get_or begins 7 0 + shared) ∷ []

ahead_each : (begins : List ℕ) (shared k : ℕ) → k < 8 → get_or (ahead_of begins shared) k 0 ≡ get_or begins k 0 + shared
ahead_each begins shared k lt = eight (λ (j : ℕ). get_or (ahead_of begins shared) j 0 ≡ get_or begins j 0 + shared) refl refl refl refl
    refl refl refl refl k lt

seat_on : (t : Table) (text offsets : List ℕ) (count name begin state shared after : ℕ) → IsSeat t text offsets count name begin state
    → after < state_count t → begin + shared ≤ get_or offsets (name + 1) 0 → state_from t state (take shared (drop begin text))
    ≡ Some after → IsSeat t text offsets count name (begin + shared) after
seat_on t text offsets count name begin state shared after seat there left led =
    let same : shared ≡ begin + shared - begin = omega arith in
    record {
      there = there;
      named = seat.named;
      behind = omega (arith, seat.behind);
      ahead = left;
      led = whole_at t text (get_or offsets name 0) begin (begin + shared) state after seat.behind (omega arith) seat.led
          (subst (λ (n : ℕ). state_from t state (take n (drop begin text)) ≡ Some after) same led);
    }

pub seats_on : (t : Table) (text offsets names begins reached after : List ℕ) (count shared : ℕ) →
    AreEach t text offsets count names begins reached
    → AreThere t after → AreLeft offsets names begins shared → AreLed t text begins shared reached after
    → AreEach t text offsets count names (ahead_of begins shared) after
seats_on t text offsets names begins reached after count shared seats there left led = λ k lt.
    subst (λ (b : ℕ). IsSeat t text offsets count (get_or names k 0) b (get_or after k 0)) (sym (ahead_each begins shared k lt))
    (seat_on t text offsets count (get_or names k 0) (get_or begins k 0) (get_or reached k 0) shared (get_or after k 0) (seats k lt)
    (there k lt) (left k lt) (led k lt))

pub left_none : (offsets names begins : List ℕ) → left_of offsets names begins zero ≡ 0
unfolding left_of
left_none offsets names begins = refl

pub left_one : (offsets names begins : List ℕ) (k : ℕ) → left_of offsets names begins (suc k)
    ≡ left_of offsets names begins k + (get_or offsets (get_or names k 0 + 1) 0 - get_or begins k 0)
unfolding left_of
left_one offsets names begins k = refl

pub left_on : (offsets names begins : List ℕ) (shared k : ℕ) → AreLeft offsets names begins shared → k ≤ 8
    → left_of offsets names (ahead_of begins shared) k + k * shared ≡ left_of offsets names begins k
left_on offsets names begins shared zero left le =
    omega (arith, left_none offsets names begins, left_none offsets names (ahead_of begins shared))
left_on offsets names begins shared (suc k) left le =
    omega (
      arith,
      left_one offsets names begins k,
      left_one offsets names (ahead_of begins shared) k,
      left_on offsets names begins shared k
          left (omega arith),
      ahead_each begins shared k (omega arith),
      left k (omega arith),
    )

-- the next name takes a seat
seat_case : (t : Table) (text offsets names begins reached : List ℕ) (count next k j : ℕ) →
    AreEach t text offsets count names begins reached
    → IsSeat t text offsets count next (get_or offsets next 0) 1 → length names ≡ 8 → length begins ≡ 8 → length reached ≡ 8 → k < 8 →
    j < 8 → (j ≡ k) ⊎ (j ≡ k → ⊥) → IsSeat t text offsets count (get_or (slice_set names k next) j 0)
    (get_or (slice_set begins k (get_or offsets next 0)) j 0) (get_or (slice_set reached k 1) j 0)
seat_case t text offsets names begins reached count next k j seats new ln lb lr lt here (inl same) =
    let n : next ≡ get_or (slice_set names k next) j 0 = sym (get_or-set_at names k j next 0 same (omega arith)) in
    let b : get_or offsets next 0 ≡ get_or (slice_set begins k (get_or offsets next 0)) j 0 =
    sym (get_or-set_at begins k j (get_or offsets next 0) 0 same (omega arith)) in
    let r : 1 ≡ get_or (slice_set reached k 1) j 0 = sym (get_or-set_at reached k j 1 0 same (omega arith)) in
    subst (λ (x : ℕ). IsSeat t text offsets count x (get_or (slice_set begins k (get_or offsets next 0)) j 0)
    (get_or (slice_set reached k 1) j 0)) n
    (subst (λ (x : ℕ). IsSeat t text offsets count next x (get_or (slice_set reached k 1) j 0)) b
    (subst (λ (x : ℕ). IsSeat t text offsets count next (get_or offsets next 0) x) r new))
seat_case t text offsets names begins reached count next k j seats new ln lb lr lt here (inr other) =
    let n : get_or names j 0 ≡ get_or (slice_set names k next) j 0 = sym (get_or-set_other names k j next 0 other) in
    let b : get_or begins j 0 ≡ get_or (slice_set begins k (get_or offsets next 0)) j 0 =
    sym (get_or-set_other begins k j (get_or offsets next 0) 0 other) in
    let r : get_or reached j 0 ≡ get_or (slice_set reached k 1) j 0 = sym (get_or-set_other reached k j 1 0 other) in
    subst (λ (x : ℕ). IsSeat t text offsets count x (get_or (slice_set begins k (get_or offsets next 0)) j 0)
    (get_or (slice_set reached k 1) j 0)) n
    (subst (λ (x : ℕ). IsSeat t text offsets count (get_or names j 0) x (get_or (slice_set reached k 1) j 0)) b
    (subst (λ (x : ℕ). IsSeat t text offsets count (get_or names j 0) (get_or begins j 0) x) r (seats j here)))

pub seats_taken : (t : Table) (text offsets names begins reached : List ℕ) (count next k : ℕ) →
    AreEach t text offsets count names begins reached
    → IsSeat t text offsets count next (get_or offsets next 0) 1 → length names ≡ 8 → length begins ≡ 8 → length reached ≡ 8 → k < 8
    → AreEach t text offsets count (slice_set names k next) (slice_set begins k (get_or offsets next 0)) (slice_set reached k 1)
seats_taken t text offsets names begins reached count next k seats new ln lb lr lt = λ j here.
    seat_case t text offsets names begins reached count next k j seats new ln lb lr lt here (cases_eq j k)

-- a seat that isn't the changed one
unseat_case : (names : List ℕ) (next k i j : ℕ) → IsUnseated (slice_set names k next) 0 i → (i ≡ get_or names k 0 → ⊥) → j < 8 →
    (j ≡ k) ⊎ (j ≡ k → ⊥) → get_or names j 0 ≡ i → ⊥
unseat_case names next k i j unseated other lt (inl same) is = other (sym is ∙ ap (λ (m : ℕ). get_or names m 0) same)
unseat_case names next k i j unseated other lt (inr apart) is = unseated j (omega arith) lt (get_or-set_other names k j next 0 apart ∙ is)

pub done_taken : (t : Table) (text offsets names states : List ℕ) (next k s : ℕ) → AreDone t text offsets next names 0 states
    → length names ≡ 8 → k < 8 → next < length states → get_or names k 0 < length states
    → IsAfter t (name_at text offsets (get_or names k 0)) s
    → AreDone t text offsets (next + 1) (slice_set names k next) 0 (slice_set states (get_or names k 0) s)
done_taken t text offsets names states next k s done ln lt more named here = λ i x below unseated at.
    let apart : i ≡ next → ⊥ = λ same. unseated k (omega arith) lt (get_or-set_at names k k next 0 refl (omega arith) ∙ sym same) in
    put_case (λ m. IsAfter t (name_at text offsets m)) states (get_or names k 0) s i x (cases_eq i (get_or names k 0)) named here
    (λ other had. done i x (omega (arith, apart, below)) (λ j from inside is. unseat_case names next k i j unseated other inside
    (cases_eq j k) is) had)
    (omega (arith, below, more)) at

still_case : (j i : ℕ) (names : List ℕ) (k : ℕ) → IsUnseated names (k + 1) i → (i ≡ get_or names k 0 → ⊥) → k ≤ j → j < 8 →
    (j ≡ k) ⊎ (j ≡ k → ⊥) → get_or names j 0 ≡ i → ⊥
still_case j i names k unseated other from lt (inl same) is = other (sym is ∙ ap (λ (m : ℕ). get_or names m 0) same)
still_case j i names k unseated other from lt (inr apart) is = unseated j (omega (arith, from, apart)) lt is

pub done_on : (t : Table) (text offsets names states : List ℕ) (next k s : ℕ) → AreDone t text offsets next names k states
    → next ≤ length states → get_or names k 0 < length states
    → IsAfter t (name_at text offsets (get_or names k 0)) s
    → AreDone t text offsets next names (k + 1) (slice_set states (get_or names k 0) s)
done_on t text offsets names states next k s done more named here = λ i x below unseated at.
    put_case (λ m. IsAfter t (name_at text offsets m)) states (get_or names k 0) s i x (cases_eq i (get_or names k 0)) named here
    (λ other had. done i x below (λ j from inside is. still_case j i names k unseated other from inside (cases_eq j k) is) had)
    (omega (arith, below, more)) at

-- what is left where a name that has ended gives its seat to the next one
left_below : (offsets names begins : List ℕ) (k next b j : ℕ) → j ≤ k
    → left_of offsets (slice_set names k next) (slice_set begins k b) j ≡ left_of offsets names begins j
left_below offsets names begins k next b zero le = left_none offsets (slice_set names k next) (slice_set begins k b)
    ∙ sym (left_none offsets names begins)
left_below offsets names begins k next b (suc j) le =
    let n : get_or (slice_set names k next) j 0 ≡ get_or names j 0 = get_or-set_other names k j next 0 (λ same. absurd (omega arith)) in
    let c : get_or (slice_set begins k b) j 0 ≡ get_or begins j 0 = get_or-set_other begins k j b 0 (λ same. absurd (omega arith)) in
    let e : get_or offsets (get_or (slice_set names k next) j 0 + 1) 0 ≡ get_or offsets (get_or names j 0 + 1) 0 =
    ap (λ (m : ℕ). get_or offsets (m + 1) 0) n in
    omega (
      arith,
      left_one offsets names begins j,
      left_one offsets (slice_set names k next) (slice_set begins k b) j,
      left_below offsets
          names begins k next b j (omega arith),
      c,
      e,
    )

pub left_taken : (offsets names begins : List ℕ) (k next j : ℕ) → length names ≡ 8 → length begins ≡ 8 → k < 8 →
    get_or offsets (get_or names k 0 + 1) 0 ≤ get_or begins k 0
    → left_of offsets (slice_set names k next) (slice_set begins k (get_or offsets next 0)) (k + 1 + j)
    ≡ left_of offsets names begins (k + 1 + j) + (get_or offsets (next + 1) 0 - get_or offsets next 0)
left_taken offsets names begins k next zero ln lb lt ended =
    let n : get_or (slice_set names k next) k 0 ≡ next = get_or-set_at names k k next 0 refl (omega arith) in
    let c : get_or (slice_set begins k (get_or offsets next 0)) k 0 ≡ get_or offsets next 0 =
    get_or-set_at begins k k (get_or offsets next 0) 0 refl (omega arith) in
    let e : get_or offsets (get_or (slice_set names k next) k 0 + 1) 0 ≡ get_or offsets (next + 1) 0 =
    ap (λ (m : ℕ). get_or offsets (m + 1) 0) n in
    let at : k + 1 + 0 ≡ suc k = omega arith in
    subst (λ (m : ℕ). left_of offsets (slice_set names k next) (slice_set begins k (get_or offsets next 0)) m
    ≡ left_of offsets names begins m + (get_or offsets (next + 1) 0 - get_or offsets next 0)) (sym at)
    (omega (
      arith,
      left_one offsets names begins k,
      left_one offsets (slice_set names k next) (slice_set begins k (get_or offsets next 0))
          k,
      left_below offsets names begins k next (get_or offsets next 0) k (omega arith),
      c,
      e,
      ended,
    ))
left_taken offsets names begins k next (suc j) ln lb lt ended =
    let i : ℕ = k + 1 + j in
    let n : get_or (slice_set names k next) i 0 ≡ get_or names i 0 = get_or-set_other names k i next 0 (λ same. absurd (omega arith)) in
    let c : get_or (slice_set begins k (get_or offsets next 0)) i 0 ≡ get_or begins i 0 =
    get_or-set_other begins k i (get_or offsets next 0) 0 (λ same. absurd (omega arith)) in
    let e : get_or offsets (get_or (slice_set names k next) i 0 + 1) 0 ≡ get_or offsets (get_or names i 0 + 1) 0 =
    ap (λ (m : ℕ). get_or offsets (m + 1) 0) n in
    let at : k + 1 + suc j ≡ suc i = omega arith in
    subst (λ (m : ℕ). left_of offsets (slice_set names k next) (slice_set begins k (get_or offsets next 0)) m
    ≡ left_of offsets names begins m + (get_or offsets (next + 1) 0 - get_or offsets next 0)) (sym at)
    (omega (
      arith,
      left_one offsets names begins i,
      left_one offsets (slice_set names k next) (slice_set begins k (get_or offsets next 0))
          i,
      left_taken offsets names begins k next j ln lb lt ended,
      c,
      e,
    ))

pub left_more : (offsets names begins : List ℕ) (k j : ℕ) → left_of offsets names begins k ≤ left_of offsets names begins (k + j)
left_more offsets names begins k zero =
    let at : k + 0 ≡ k = omega arith in
    omega (arith, ap (left_of offsets names begins) at)
left_more offsets names begins k (suc j) =
    let at : k + suc j ≡ suc (k + j) = omega arith in
    omega (arith, left_one offsets names begins (k + j), left_more offsets names begins k j, ap (left_of offsets names begins) at)

-- as many bytes as the eight names that sit down first have
pub first_left : (text offsets : List ℕ) (count : ℕ) → AreOffsets text offsets count → 8 ≤ count
    → (k : ℕ) → k ≤ 8 → left_of offsets first_names (first_begins offsets) k + get_or offsets 0 0 ≡ get_or offsets k 0
first_left text offsets count offs enough zero le = omega (arith, left_none offsets first_names (first_begins offsets))
first_left text offsets count offs enough (suc k) le =
    let n : get_or offsets (get_or first_names k 0 + 1) 0 ≡ get_or offsets (suc k) 0 =
    eight (λ (j : ℕ). get_or offsets (get_or first_names j 0 + 1) 0 ≡ get_or offsets (suc j) 0) refl refl refl refl refl refl refl refl k
    (omega arith) in
    let b : get_or (first_begins offsets) k 0 ≡ get_or offsets k 0 =
    eight (λ (j : ℕ). get_or (first_begins offsets) j 0 ≡ get_or offsets j 0) refl refl refl refl refl refl refl refl k (omega arith) in
    let at : k + 1 ≡ suc k = omega arith in
    omega (
      arith,
      left_one offsets first_names (first_begins offsets) k,
      first_left text offsets count offs enough k (omega arith),
      n,
      b,
      offs.ascend k (omega arith),
      ap (λ (m : ℕ). get_or offsets m 0) at,
    )

-- the same with the number of seats written out
pub all_taken : (offsets names begins : List ℕ) (k next : ℕ) → length names ≡ 8 → length begins ≡ 8 → k < 8 →
    get_or offsets (get_or names k 0 + 1) 0 ≤ get_or begins k 0
    → left_of offsets (slice_set names k next) (slice_set begins k (get_or offsets next 0)) 8
    ≡ left_of offsets names begins 8 + (get_or offsets (next + 1) 0 - get_or offsets next 0)
all_taken offsets names begins k next ln lb lt ended =
    let at : k + 1 + (7 - k) ≡ 8 = omega arith in
    subst (λ (m : ℕ). left_of offsets (slice_set names k next) (slice_set begins k (get_or offsets next 0)) m
    ≡ left_of offsets names begins m + (get_or offsets (next + 1) 0 - get_or offsets next 0)) at
    (left_taken offsets names begins k next (7 - k) ln lb lt ended)

pub left_within : (offsets names begins : List ℕ) (k : ℕ) → k < 8
    → left_of offsets names begins k + (get_or offsets (get_or names k 0 + 1) 0 - get_or begins k 0) ≤ left_of offsets names begins 8
left_within offsets names begins k lt =
    let at : suc k + (7 - k) ≡ 8 = omega arith in
    omega (arith, left_one offsets names begins k, left_more offsets names begins (suc k) (7 - k), ap (left_of offsets names begins) at)

pub left_next : (offsets names begins : List ℕ) (k : ℕ) → left_of offsets names begins (k + 1)
    ≡ left_of offsets names begins k + (get_or offsets (get_or names k 0 + 1) 0 - get_or begins k 0)
left_next offsets names begins k =
    let at : k + 1 ≡ suc k = omega arith in
    ap (left_of offsets names begins) at ∙ left_one offsets names begins k

-- a name in a seat that has reached its end
pub ended : (t : Table) (text offsets : List ℕ) (count name begin state : ℕ) → IsSeat t text offsets count name begin state
    → get_or offsets (name + 1) 0 ≤ begin → IsAfter t (name_at text offsets name) state
ended t text offsets count name begin state seat le =
    let same : begin ≡ get_or offsets (name + 1) 0 = omega (arith, seat.ahead) in (
      subst (λ (e : ℕ). state_after t (take (e - get_or offsets name 0) (drop (get_or offsets name 0) text)) ≡ Some state) same seat.led,
      seat.there,
    )

-- the first eight names, of which none has gone
pub under_way : (t : Table) (text offsets states : List ℕ) (seats : Seats) → AreOffsets text offsets (length states) →
    1 < state_count t → 8 ≤ length states → seats ≡ first_eight offsets → AreUnderWay t text offsets seats 8 states
under_way t text offsets states seats offs start enough is =
    subst (λ (z : Seats). AreUnderWay t text offsets z 8 states) (sym is) (record {
      each = record {
        names_long = refl;
        places_long = refl;
        states_long = refl;
        each = first_seats t text offsets (length states) offs start enough;
      };
      eight = omega arith;
      there = enough;
      done = first_done t text offsets states;
    })

pub left_first : (text offsets : List ℕ) (count : ℕ) (seats : Seats) → AreOffsets text offsets count → 8 ≤ count →
    seats ≡ first_eight offsets → left_of offsets seats.names seats.places 8 + get_or offsets 0 0 ≡ get_or offsets 8 0
left_first text offsets count seats offs enough is =
    subst (λ (z : Seats). left_of offsets z.names z.places 8 + get_or offsets 0 0 ≡ get_or offsets 8 0) (sym is)
    (first_left text offsets count offs enough 8 (omega arith))
