-- The hashes of questions.
use Rattle.std.specs.Prelude.{ℕ, ◌+◌, ◌*◌, ◌^◌, List, bit_xor}
use Rattle.std.specs.Hash as fed
use Rattle.std.specs.Hash.FoldHasher as folding
use Rattle.verdict_cache.specs.Questions.{Asked}

abbrev pub hash_of : List ℕ → ℕ
hash_of bytes = folding.finish (folding.write folding.initial bytes)

-- what is hashed of a question: the hashes of its path and of its profile's name, each with a version, as one number
abbrev pub writes : Asked → List (List ℕ)
writes q = fed.u128 (bit_xor (hash_of q.profile) q.policy * 2 ^ 64 + bit_xor (hash_of q.path) q.tree)
