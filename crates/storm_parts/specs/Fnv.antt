-- The hash FNV-1a of 64 bits (G. Fowler, L. C. Noll, K.-P. Vo, D. Eastlake and T. Hansen, "The FNV Non-Cryptographic Hash
-- Algorithm", section 2).
use Rattle.std.specs.Prelude.{ℕ, ◌*◌, ◌%◌, ◌^◌, List, [], ◌∷◌, bit_xor}

-- the offset basis
abbrev pub hash_of_none : ℕ
hash_of_none = 14695981039346656037

-- the hash of bytes that follow those of this hash
unfoldable pub hash_on : ℕ → List ℕ → ℕ
hash_on hash [] = hash
hash_on hash (byte ∷ bytes) = hash_on (bit_xor hash byte * 1099511628211 % 2 ^ 64) bytes
