-- The hash, byte by byte.
use Rattle.std.proofs.Common.{◌≡◌, ℕ, ◌+◌, ◌*◌, ◌%◌, ◌^◌, ◌<◌, ◌≤◌, List, length, get_or, drop, bit_xor, add-one, drop-cons}
use Rattle.std.proofs.Math.ListN.{drop_of_length-le}
use Rattle.storm_parts.specs.Fnv.{hash_on}

-- bytes are taken in one after another
pub hash_step : (h i : ℕ) (bytes : List ℕ) → i < length bytes
    → hash_on h (drop i bytes) ≡ hash_on (bit_xor h (get_or bytes i 0) * 1099511628211 % 2 ^ 64) (drop (i + 1) bytes)
unfolding hash_on
hash_step h i bytes l = rw (add-one, drop-cons bytes i 0)

pub hash_done : (h i : ℕ) (bytes : List ℕ) → length bytes ≤ i → hash_on h (drop i bytes) ≡ h
unfolding hash_on
hash_done h i bytes l = rw (drop_of_length-le bytes l)
