-- The place at which the search for an entry begins.
use Rattle.std.specs.Prelude.{ℕ, ◌+◌, ◌*◌, ◌%◌, List, [], ◌∷◌}

-- going on from a number with the bytes of a component
unfoldable pub hash_on : ℕ → List ℕ → ℕ
hash_on h [] = h
hash_on h (byte ∷ bytes) = hash_on ((h * 31 + byte) % 4294967296) bytes

-- of a component in the directory of a slot, in an index of this many places
unfoldable pub home : ℕ → ℕ → List ℕ → ℕ
home size directory component = hash_on directory component % size
