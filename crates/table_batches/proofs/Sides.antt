-- Eight names side by side.
use Rattle.std.proofs.Common.{◌≡◌, ℕ, zero, suc, ◌+◌, ◌-◌, ◌<◌, ◌≤◌, List, [], ◌∷◌, ◌++◌, Some, drop, get_or, length, slice_get}
use Rattle.std.proofs.Common.{slice_set, take, refl, ap, sym, subst, ◌∙◌, ◌⊎◌, inl, inr, arith, take-add, length-take-le, length-drop}
use Rattle.std.proofs.lemmas.List.{drop-drop, get_or-drop, get_or-set_other}
use Rattle.std.proofs.lemmas.Grind.{get_or-set_at}
use Rattle.std.proofs.lemmas.Bool.{cases_eq}
use Rattle.std.proofs.lemmas.Option.{get_or_from_slice_get, slice_get-get_or}
use Rattle.tables.specs.Tables.{Table, state_after, state_from, next_state}
use Rattle.table_verifier.specs.Eight.{AreNext}
use Rattle.table_batches.specs.Batches.{IsAfter, name_at}
use Rattle.table_batches.specs.inner.Seats.{AreAfterTo, AreLed}
use Rattle.table_verifier.specs.laws.StepsOfTables.{goes_on, state_next}

-- what holds of each of eight
pub eight : (P : ℕ → Type 0) → P 0 → P 1 → P 2 → P 3 → P 4 → P 5 → P 6 → P 7 → (k : ℕ) → k < 8 → P k
eight P a b c d e f g h zero lt = a
eight P a b c d e f g h (suc zero) lt = b
eight P a b c d e f g h (suc (suc zero)) lt = c
eight P a b c d e f g h (suc (suc (suc zero))) lt = d
eight P a b c d e f g h (suc (suc (suc (suc zero)))) lt = e
eight P a b c d e f g h (suc (suc (suc (suc (suc zero))))) lt = f
eight P a b c d e f g h (suc (suc (suc (suc (suc (suc zero)))))) lt = g
eight P a b c d e f g h (suc (suc (suc (suc (suc (suc (suc zero))))))) lt = h
eight P a b c d e f g h (suc (suc (suc (suc (suc (suc (suc (suc k)))))))) lt = absurd (omega arith)

-- the byte that is this number of bytes after each of eight places
abbrev pub bytes_at : List ℕ → List ℕ → ℕ → List ℕ
bytes_at text begins i =
    get_or text (get_or begins 0 0 + i) 0 ∷ get_or text (get_or begins 1 0 + i) 0 ∷ get_or text (get_or begins 2 0 + i) 0
    ∷ get_or text (get_or begins 3 0 + i) 0 ∷ get_or text (get_or begins 4 0 + i) 0 ∷ get_or text (get_or begins 5 0 + i) 0
    ∷ get_or text (get_or begins 6 0 + i) 0 ∷ get_or text (get_or begins 7 0 + i) 0 ∷ []

at_each : (text begins : List ℕ) (i k : ℕ) → k < 8 → get_or (bytes_at text begins i) k 0 ≡ get_or text (get_or begins k 0 + i) 0
at_each text begins i k lt =
    eight (λ (j : ℕ). get_or (bytes_at text begins i) j 0 ≡ get_or text (get_or begins j 0 + i) 0) refl refl refl refl
    refl refl refl refl k lt

-- one more byte for each of eight
pub led_more : (t : Table) (text begins states reached after : List ℕ) (i : ℕ)
    → AreLed t text begins i states reached → AreNext t reached (bytes_at text begins i) after
    → ((k : ℕ) → k < 8 → get_or begins k 0 + i < length text) → AreLed t text begins (i + 1) states after
led_more t text begins states reached after i led next within k lt =
    let from : ℕ = get_or begins k 0 in
    let room : i < length (drop from text) = omega (arith, within k lt, length-drop from text) in
    state_next t (get_or states k 0) (drop from text) i (get_or reached k 0) room (led k lt)
    ∙ ap (next_state t (get_or reached k 0)) (get_or-drop from text i 0 ∙ sym (at_each text begins i k lt))
    ∙ next k lt

-- a name's first bytes, and those after them
pub whole : (t : Table) (text : List ℕ) (begin end shared m n : ℕ) → begin + shared ≤ end →
    state_after t (take shared (drop begin text)) ≡ Some m
    → state_from t m (take (end - (begin + shared)) (drop (begin + shared) text)) ≡ Some n →
    state_after t (take (end - begin) (drop begin text)) ≡ Some n
whole t text begin end shared m n le here there =
    let long : end - begin ≡ shared + (end - (begin + shared)) = omega arith in
    ap (λ (k : ℕ). state_after t (take k (drop begin text))) long
    ∙ ap (state_after t) (take-add shared (end - (begin + shared)) (drop begin text)
    ∙ ap (λ (l : List ℕ). take shared (drop begin text) ++ take (end - (begin + shared)) l) (drop-drop shared begin text))
    ∙ goes_on t 1 m n (take shared (drop begin text)) (take (end - (begin + shared)) (drop (begin + shared) text)) here there

pub part_long : (text : List ℕ) (begin end : ℕ) → begin ≤ end → end ≤ length text → length (take (end - begin) (drop begin text))
    ≡ end - begin
part_long text begin end le within = length-take-le (end - begin) (drop begin text) (omega (arith, length-drop begin text))

-- A state is put down for one of them: it has what holds of that one, and each other has what it had.
pub put_case : (Holds : ℕ → ℕ → Type 0) (states : List ℕ) (n s i x : ℕ) → (i ≡ n) ⊎ (i ≡ n → ⊥) → n < length states → Holds n s
    → ((i ≡ n → ⊥) → slice_get states i ≡ Some x → Holds i x) → i < length states → slice_get (slice_set states n s) i ≡ Some x → Holds i x
put_case Holds states n s i x (inl same) lt here else within at =
    let value : s ≡ x = sym (get_or-set_at states n i s 0 same lt) ∙ get_or_from_slice_get (slice_set states n s) i x 0 at in
    subst (λ (m : ℕ). Holds m x) (sym same) (subst (Holds n) value here)
put_case Holds states n s i x (inr other) lt here else within at =
    let value : get_or states i 0 ≡ x = sym (get_or-set_other states n i s 0 other) ∙ get_or_from_slice_get
    (slice_set states n s) i x 0 at in
    else other (slice_get-get_or states i 0 within ∙ ap Some value)

pub put_more : (t : Table) (text offsets states : List ℕ) (n s : ℕ) → AreAfterTo t text offsets n states → n < length states
    → IsAfter t (name_at text offsets n) s → AreAfterTo t text offsets (n + 1) (slice_set states n s)
put_more t text offsets states n s done lt here = λ i x within at.
    put_case (λ k. IsAfter t (name_at text offsets k)) states n s i x (cases_eq i n) lt here
    (λ other had. done i x (omega (arith, within, other)) had) (omega (arith, within, lt)) at
