-- The slash before a group, and a path for each alternative.
use Rattle.std.proofs.Common.{◌≡◌, ◌<◌, true, false, not, ◌&&◌, ◌==◌, if◌then◌else◌, List, [], ◌∷◌, ◌++◌, length, map}
use Rattle.std.proofs.Common.{drop, Vec, Global, refl, sym, ap, ◌∙◌, append-nil, arith}
use Rattle.std.proofs.lemmas.Bool.Decides.{nat_tests}
use Rattle.std.specs.List.{list_all}
use Rattle.std.proofs.lemmas.List.{length-map}
use Rattle.rule_globs.specs.Tokens.{Token, byte, opening, closing, with_commas, tokens, tokens_of, is_full, all_full}
use Rattle.rule_globs.specs.declared.items.Item.{Item}
use Rattle.rule_globs.specs.declared.items.Item.TheVariants as v
use Rattle.rule_globs.specs.laws.TokenItems.{tokens-Byte, tokens-Group, full-Byte, full-Group}
use Rattle.rule_writer.specs.laws.CanonWrites.{items_parts}
use Rattle.rule_making.specs.Leads.{can_be_split, gives_slash, slash_before, group_leads}

-- ---- the slash before the group

pub before_tokens : (start first second : List Item) (bare : Vec (Vec Item Global) Global) →
    start ≡ [] → first ≡ start ++ v.Byte 47 ∷ [] → second ≡ first ++ v.Group bare ∷ [] →
    tokens_of second ≡ byte 47 ∷ (opening ∷ (with_commas (items_parts bare.items) ++ closing ∷ []))
before_tokens start first second bare e f g =
    ap tokens_of (g ∙ ap (λ l. l ++ v.Group bare ∷ []) (f ∙ ap (λ l. l ++ v.Byte 47 ∷ []) e))
    ∙ ap (λ row. row ++ (tokens (v.Group bare) ++ [])) (tokens-Byte 47)
    ∙ ap (λ row. byte 47 ∷ row) (append-nil (tokens (v.Group bare)) ∙ tokens-Group bare)

pub before_full : (start first second : List Item) (bare : Vec (Vec Item Global) Global) (alternatives : List (Vec Item Global)) →
    start ≡ [] → first ≡ start ++ v.Byte 47 ∷ [] → second ≡ first ++ v.Group bare ∷ [] →
    items_parts bare.items ≡ map (drop 1) (items_parts alternatives) → 0 < length alternatives →
    list_all (λ items. all_full items.items) bare.items ≡ true → all_full second ≡ true
before_full start first second bare alternatives e f g h some whole =
    let as_many : length bare.items ≡ length alternatives =
    sym (length-map bare.items (λ items. tokens_of items.items)) ∙ ap length h ∙ length-map (items_parts alternatives) (drop 1)
    ∙ length-map alternatives (λ items. tokens_of items.items) in
    let few : (length bare.items == 0) ≡ false = grind (arith, nat_tests) in
    let group : is_full (v.Group bare) ≡ true =
    full-Group bare ∙ ap (λ b. not b && list_all (λ items. all_full items.items) bare.items) few ∙ whole in
    ap all_full (g ∙ ap (λ l. l ++ v.Group bare ∷ []) (f ∙ ap (λ l. l ++ v.Byte 47 ∷ []) e))
    ∙ ap (λ b. b && (is_full (v.Group bare) && true)) (full-Byte 47)
    ∙ ap (λ b. b && true) group

-- ---- a path for each alternative

split_row : (alternatives : List (Vec Item Global)) (follow : List Token) →
    map (λ items. tokens_of items.items ++ follow) alternatives ≡ map (λ alternative. alternative ++ follow) (items_parts alternatives)
split_row [] follow = refl
split_row (a ∷ alternatives) follow = ap (λ l. (tokens_of a.items ++ follow) ∷ l) (split_row alternatives follow)

pub split_leads : (alternatives : List (Vec Item Global)) (follow : List Token) → list_all gives_slash (items_parts alternatives) ≡ false →
    can_be_split (items_parts alternatives) follow ≡ true →
    map (λ items. tokens_of items.items ++ follow) alternatives ≡ group_leads (items_parts alternatives) follow
split_leads alternatives follow none all =
    let made = map (λ alternative. alternative ++ follow) (items_parts alternatives) in
    split_row alternatives follow
    ∙ sym (ap (λ b. if b then slash_before (items_parts alternatives) follow ∷ [] else if can_be_split (items_parts alternatives) follow
    then made else []) none
    ∙ ap (λ b. if b then made else []) all)
