-- The items of a name as it is, one more at a time.
use Rattle.std.proofs.Common.{◌≡◌, ◌∙◌, ℕ, Bool, true, List, [], ◌∷◌, ◌++◌, map, ap, refl, IsTrue, append_assoc}
use Rattle.std.proofs.lemmas.List.Concat.{flat_map-append}
use Rattle.std.proofs.lemmas.List.Folds.{list_all-append}
use Rattle.std.proofs.lemmas.Bool.{and_from}
use Rattle.std.specs.Prelude.{◌&&◌}
use Rattle.rule_globs.specs.declared.items.Item.{Item}
use Rattle.rule_globs.specs.declared.items.Item.TheVariants as v
use Rattle.rule_globs.specs.Tokens.{Token, all_full, byte, is_full, tokens, tokens_of}
use Rattle.rule_globs.specs.laws.TokenItems.{tokens-Byte, full-Byte}

pub one_more_token : (items : List Item) (b : ℕ) (more name : List ℕ) → tokens_of items ++ map byte (b ∷ more) ≡ map byte name
    → tokens_of (items ++ (v.Byte b ∷ [])) ++ map byte more ≡ map byte name
one_more_token items b more name e =
    ap (λ (l : List Token). l ++ map byte more) (flat_map-append tokens items (v.Byte b ∷ [])
    ∙ ap (λ (l : List Token). tokens_of items ++ (l ++ [])) (tokens-Byte b))
    ∙ append_assoc (tokens_of items) (byte b ∷ []) (map byte more) ∙ e

pub one_more_full : (items : List Item) (b : ℕ) → IsTrue (all_full items) → IsTrue (all_full (items ++ (v.Byte b ∷ [])))
one_more_full items b h =
    list_all-append is_full items (v.Byte b ∷ []) ∙ and_from (all_full items) (is_full (v.Byte b) && true) h (rw full-Byte refl)
