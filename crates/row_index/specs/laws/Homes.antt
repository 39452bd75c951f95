-- The hash of a component, byte by byte, and its place.
use Rattle.std.proofs.Common.{◌≡◌, ℕ, ◌+◌, ◌-◌, ◌*◌, ◌^◌, ◌<◌, ◌≤◌, ◌%◌, List, length, get_or, drop}
use Rattle.std.proofs.Common.{subst, sym, arith, add-one, drop-cons}
use Rattle.std.specs.Prelude.{bit_and}
use Rattle.std.proofs.Math.ListN.{drop_of_length-le}
use Rattle.std.proofs.lemmas.Nat.{and_mask}
use Rattle.row_index.specs.Hashes.{hash_on, home}

pub home_within : (size d : ℕ) (c : List ℕ) → 0 < size → home size d c < size
unfolding home
home_within size d c some = omega arith

-- a component's bytes are taken in one after another
pub hash_step : (h i : ℕ) (c : List ℕ) → i < length c
    → hash_on h (drop i c) ≡ hash_on ((h * 31 + get_or c i 0) % 4294967296) (drop (i + 1) c)
unfolding hash_on
hash_step h i c l = rw (add-one, drop-cons c i 0)

pub hash_done : (h i : ℕ) (c : List ℕ) → length c ≤ i → hash_on h (drop i c) ≡ h
unfolding hash_on
hash_done h i c l = rw (drop_of_length-le c l)

-- a multiplication and an addition that both wrap leave the remainder of the sum
pub wrapped_sum : (h b : ℕ) → (h * 31 % 4294967296 + b) % 4294967296 ≡ (h * 31 + b) % 4294967296
wrapped_sum h b = omega arith

-- the mask of a power of two leaves the remainder
pub masked : (h size k : ℕ) → size ≡ 2 ^ k → bit_and h (size - 1) ≡ h % size
masked h size k is = subst (λ (z : ℕ). bit_and h (z - 1) ≡ h % z) (sym is) (and_mask h k)
