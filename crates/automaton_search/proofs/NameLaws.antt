-- Names: a slash and more bytes.
use Rattle.std.proofs.Common.{◌≡◌, ℕ, List, [], ◌∷◌, ◌++◌, refl, ap, arith}
use Rattle.std.specs.List.{All}
use Rattle.std.proofs.lemmas.List.Elements.{All-nil, All-cons, All-tail, All-push}
use Rattle.names.specs.Bytes.{are_bytes}
use Rattle.names.specs.Paths.{IsName}
use Rattle.automaton_search.specs.inner.Walks.{IsNameByte}

pub slash_is_name : IsName (47 ∷ [])
slash_is_name = (refl, All-cons IsNameByte 47 [] (omega arith, omega arith) (All-nil IsNameByte))

pub name_parts : (name : List ℕ) → IsName name → (rest : List ℕ) × (name ≡ 47 ∷ rest) × All IsNameByte rest
name_parts [] is = absurd cc
name_parts (b ∷ rest) is = (rest, ap (λ c. c ∷ rest) is.0, All-tail IsNameByte b rest is.1)

pub name_more : (name : List ℕ) (b : ℕ) → IsName name → IsNameByte b → IsName (name ++ b ∷ [])
name_more [] b is byte = absurd cc
name_more (c ∷ rest) b is byte = (is.0, All-push IsNameByte (c ∷ rest) b is.1 byte)

pub name_bytes : (name : List ℕ) → IsName name → are_bytes name
name_bytes name is = λ k d lt. (is.1 k d lt).1
