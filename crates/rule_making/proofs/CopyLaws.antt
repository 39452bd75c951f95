-- A group with the tokens of another's alternatives.
use Rattle.std.proofs.Common.{◌≡◌, [], ◌∷◌, ◌++◌, Vec, Global, sym, ap, ◌∙◌}
use Rattle.rule_globs.specs.Tokens.{opening, closing, with_commas, tokens}
use Rattle.rule_globs.specs.declared.items.Item.{Item}
use Rattle.rule_globs.specs.declared.items.Item.TheVariants as v
use Rattle.rule_globs.specs.laws.TokenItems.{tokens-Group}
use Rattle.rule_writer.specs.laws.CanonWrites.{items_parts}

pub same_group : (copies alternatives : Vec (Vec Item Global) Global) →
    with_commas (items_parts copies.items) ≡ with_commas (items_parts alternatives.items) →
    tokens (v.Group copies) ≡ tokens (v.Group alternatives)
same_group copies alternatives h =
    tokens-Group copies ∙ ap (λ row. opening ∷ (row ++ closing ∷ [])) h ∙ sym (tokens-Group alternatives)
