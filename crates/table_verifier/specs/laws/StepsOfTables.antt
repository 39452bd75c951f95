-- The state after one more byte.
use Rattle.std.proofs.Common.{◌≡◌, ℕ, zero, suc, ◌+◌, ◌<◌, ◌≤◌, List, [], ◌∷◌, ◌++◌, length, take, get_or, Option, Some, None, refl, ap}
use Rattle.std.proofs.Common.{◌∙◌, arith}
use Rattle.std.specs.Option.{option_and_then, unwrap_or}
use Rattle.std.proofs.lemmas.List.{take_more}
use Rattle.std.proofs.lemmas.Option.{same_Some}
use Rattle.tables.specs.Tables.{Table, look_ups, look_ups_from, next_state, state_from}

stays : (o : Option ℕ) → option_and_then (λ (n : ℕ). Some n) o ≡ o
stays None = refl
stays (Some n) = refl

-- what holds from each state holds from the one that a step led to, if it led to one
goes_through : (t : Table) (n : ℕ) (bytes : List ℕ) (b : ℕ) (o : Option ℕ)
    → ((m : ℕ) → state_from t m bytes ≡ Some n → state_from t m (bytes ++ b ∷ []) ≡ next_state t n b)
    → option_and_then (λ (m : ℕ). state_from t m bytes) o ≡ Some n
    → option_and_then (λ (m : ℕ). state_from t m (bytes ++ b ∷ [])) o ≡ next_state t n b
goes_through t n bytes b None more at = cc
goes_through t n bytes b (Some m) more at = more m at

-- from a list's last state one goes on with one more byte
goes_one_more : (t : Table) (s n : ℕ) (bytes : List ℕ) (b : ℕ) → state_from t s bytes ≡ Some n → state_from t s (bytes ++ b ∷ [])
    ≡ next_state t n b
goes_one_more t s n [] b at = stays (next_state t s b) ∙ ap (λ (m : ℕ). next_state t m b) (same_Some s n at)
goes_one_more t s n (c ∷ bytes) b at = goes_through t n bytes b (next_state t s c) (λ m there. goes_one_more t m n bytes b there) at

-- the state after one more byte, which isn't known to be there
pub state_next : (t : Table) (start : ℕ) (bytes : List ℕ) (i s : ℕ) → i < length bytes → state_from t start (take i bytes) ≡ Some s
    → state_from t start (take (i + 1) bytes) ≡ next_state t s (get_or bytes i 0)
state_next t start bytes i s lt at = ap (state_from t start) (take_more bytes i 0 lt) ∙ goes_one_more t start s (take i bytes)
    (get_or bytes i 0) at

-- what a state leads to by some bytes leads on by those after them
goes_on_by : (t : Table) (m n : ℕ) (xs ys : List ℕ) (o : Option ℕ) →
    ((k : ℕ) → state_from t k xs ≡ Some m → state_from t k (xs ++ ys) ≡ Some n)
    → option_and_then (λ (k : ℕ). state_from t k xs) o ≡ Some m → option_and_then (λ (k : ℕ). state_from t k (xs ++ ys)) o ≡ Some n
goes_on_by t m n xs ys None more here = cc
goes_on_by t m n xs ys (Some k) more here = more k here

pub goes_on : (t : Table) (s m n : ℕ) (xs ys : List ℕ) → state_from t s xs ≡ Some m → state_from t m ys ≡ Some n →
    state_from t s (xs ++ ys) ≡ Some n
goes_on t s m n [] ys here there = ap (λ (k : ℕ). state_from t k ys) (same_Some s m here) ∙ there
goes_on t s m n (x ∷ xs) ys here there = goes_on_by t m n xs ys (next_state t s x) (λ k led. goes_on t k m n xs ys led there) here

-- the state after some bytes is that after the first and then the others
goes_by : (t : Table) (n : ℕ) (bytes : List ℕ) (o : Option ℕ) → option_and_then (λ (m : ℕ). state_from t m bytes) o ≡ Some n
    → state_from t (unwrap_or o 0) bytes ≡ Some n
goes_by t n bytes None none = cc
goes_by t n bytes (Some m) there = there

-- more bytes take their look-ups more
pub look_ups_more : (t : Table) (s n : ℕ) (bytes more : List ℕ) → state_from t s bytes ≡ Some n → look_ups_from t s (bytes ++ more)
    ≡ look_ups_from t s bytes + look_ups_from t n more
look_ups_more t s n [] more at =
    let same : look_ups_from t s more ≡ look_ups_from t n more = ap (λ (m : ℕ). look_ups_from t m more) (same_Some s n at) in
    omega (arith, same)
look_ups_more t s n (c ∷ bytes) more at =
    let m : ℕ = unwrap_or (next_state t s c) 0 in
    let rest : look_ups_from t m (bytes ++ more) ≡ look_ups_from t m bytes + look_ups_from t n more =
    look_ups_more t m n bytes more (goes_by t n bytes (next_state t s c) at) in
    omega (arith, rest)

-- one more byte adds its look-ups
pub look_ups_next : (t : Table) (start : ℕ) (bytes : List ℕ) (i s : ℕ) → i < length bytes → state_from t start (take i bytes) ≡ Some s
    → look_ups_from t start (take (i + 1) bytes) ≡ look_ups_from t start (take i bytes) + look_ups t s (get_or bytes i 0)
look_ups_next t start bytes i s lt at =
    let more = look_ups_more t start s (take i bytes) (get_or bytes i 0 ∷ []) at in
    let one = ap (look_ups_from t start) (take_more bytes i 0 lt) in
    omega (arith, more, one)

-- a part takes no more look-ups than the whole
pub look_ups_of_part : (t : Table) (s i : ℕ) (bytes : List ℕ) → look_ups_from t s (take i bytes) ≤ look_ups_from t s bytes
look_ups_of_part t s zero bytes = omega arith
look_ups_of_part t s (suc i) [] = omega arith
look_ups_of_part t s (suc i) (b ∷ bytes) =
    let rest = look_ups_of_part t (unwrap_or (next_state t s b) 0) i bytes in
    omega (arith, rest)
