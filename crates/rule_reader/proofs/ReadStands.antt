-- The tokens that are read from a path's text are valid where they are.
use Rattle.std.proofs.Common.{◌≡◌, ℕ, List, [], false, true, Ok, subst}
use Rattle.rule_globs.specs.Tokens.{Token}
use Rattle.rule_reader.specs.ReadPaths.{tokens_at}
use Rattle.rule_profile.specs.Readable.{are_tokens}
use Rattle.rule_reader.proofs.CanonTrees.{items_are_tokens}
use Rattle.rule_reader.proofs.TakePaths.{tokens_take}

pub read_stands : (bytes : List ℕ) (row : List Token) (rest : List ℕ) → tokens_at true 1024 [] false bytes ≡ Ok (row, rest) →
    are_tokens false 0 row ≡ true
read_stands bytes row rest e =
    let taken = tokens_take true 1024 [] false bytes (row, rest) e in
    subst (λ r. are_tokens false 0 r ≡ true) taken.means (items_are_tokens true false 0 taken.written taken.valid)
