-- Items by induction, and the tokens of each kind of item.
use Rattle.std.proofs.Common.{◌≡◌, ℕ, Bool, true, not, ◌&&◌, ◌==◌, List, [], ◌∷◌, ◌++◌, length, map, Vec, Global, refl, sym, ap, subst}
use Rattle.std.proofs.Common.{◌∙◌}
use Rattle.std.specs.List.{flat_map, list_all}
use Rattle.std.proofs.lemmas.List.Folds.{flat_map-map, list_all-map}
use Rattle.std.proofs.lemmas.List.{length-map}
use Rattle.rule_globs.specs.Tokens.{Token, byte, any_byte, bracket, stars, opening, closing, with_commas, node_tokens, tokens, tokens_of}
use Rattle.rule_globs.specs.Tokens.{node_full, is_full, all_full}
use Rattle.rule_globs.specs.declared.items.Class.{Class}
use Rattle.rule_globs.specs.declared.items.Stars.{Stars}
use Rattle.rule_globs.specs.Each.{Each}
use Rattle.rule_globs.specs.declared.items.Item.{Item, Item-F, roll-Item, map-Item, ind-Item, fold-roll-Item}
use Rattle.rule_globs.specs.declared.items.Item.TheVariants as v
use Rattle.rule_globs.specs.declared.items.Item.TheVariants.{rolls-Byte, rolls-AnyByte, rolls-Class, rolls-Stars, rolls-Group}

-- ---- induction

-- the fact holds of each item of each alternative
abbrev pub EachWithin : (Item → Type 0) → List (Vec Item Global) → Type 0
EachWithin P [] = Unit {0}
EachWithin P (items ∷ alternatives) = Each P items.items × EachWithin P alternatives

held : (P : Item → Type 0) (es : List ((z : Item) × P z)) → Each P (map (λ e. e.0) es)
held P [] = tt
held P (e ∷ es) = (e.1, held P es)

held_within : (P : Item → Type 0) (f : Vec ((z : Item) × P z) Global → Vec Item Global) →
    ((v : Vec ((z : Item) × P z) Global) → (f v).items ≡ map (λ e. e.0) v.items) →
    (es : List (Vec ((z : Item) × P z) Global)) → EachWithin P (map f es)
held_within P f same [] = tt
held_within P f same (e ∷ es) = (subst (Each P) (sym (same e)) (held P e.items), held_within P f same es)

pub item_induction : (P : Item → Type 0) → ((b : ℕ) → P (v.Byte b)) → P v.AnyByte → ((c : Class) → P (v.Class c)) →
    ((s : Stars) → P (v.Stars s)) →
    ((alternatives : Vec (Vec Item Global) Global) → EachWithin P alternatives.items → P (v.Group alternatives)) →
    (item : Item) → P item
item_induction P at_byte at_any at_class at_stars at_group = ind-Item P (λ x y is.
    subst (λ z. P (roll-Item z)) is (elim y as (λ y. P (roll-Item (map-Item _ _ (λ e. e.0) y))) [
      | Item-F.Byte b ↦ subst P (sym (rolls-Byte b)) (at_byte b)
      | Item-F.AnyByte ↦ subst P (sym rolls-AnyByte) at_any
      | Item-F.Class c ↦ subst P (sym (rolls-Class c)) (at_class c)
      | Item-F.Stars s ↦ subst P (sym (rolls-Stars s)) (at_stars s)
      | Item-F.Group w ↦ subst P (sym (rolls-Group _)) (at_group _ (held_within P _ (λ v. refl) w.items))
    ]))

-- ---- tokens

pub tokens-Byte : (b : ℕ) → tokens (v.Byte b) ≡ byte b ∷ []
tokens-Byte b = ap tokens (sym (rolls-Byte b)) ∙ fold-roll-Item (List Token) node_tokens (Item-F.Byte b)

pub tokens-AnyByte : tokens v.AnyByte ≡ any_byte ∷ []
tokens-AnyByte = ap tokens (sym rolls-AnyByte) ∙ fold-roll-Item (List Token) node_tokens Item-F.AnyByte

pub tokens-Class : (c : Class) → tokens (v.Class c) ≡ bracket c.negated c.ranges ∷ []
tokens-Class c = ap tokens (sym (rolls-Class c)) ∙ fold-roll-Item (List Token) node_tokens (Item-F.Class c)

pub tokens-Stars : (s : Stars) → tokens (v.Stars s) ≡ stars s.crosses_slashes s.strict ∷ []
tokens-Stars s = ap tokens (sym (rolls-Stars s)) ∙ fold-roll-Item (List Token) node_tokens (Item-F.Stars s)

-- the tokens between a group's braces
abbrev pub alternatives_row : List (Vec Item Global) → List Token
alternatives_row alternatives = with_commas (map (λ items. tokens_of items.items) alternatives)

flat_row : (f : Vec Item Global → Vec (List Token) Global) → ((v : Vec Item Global) → (f v).items ≡ map tokens v.items) →
    (alternatives : List (Vec Item Global)) →
    map (λ items. flat_map (λ t. t) items.items) (map f alternatives) ≡ map (λ items. tokens_of items.items) alternatives
flat_row f same [] = refl
flat_row f same (a ∷ others) =
    let here : flat_map (λ t. t) (f a).items ≡ tokens_of a.items = rw (same a) (flat_map-map (λ t. t) tokens a.items) in
    let there = flat_row f same others in cc

pub tokens-Group : (alternatives : Vec (Vec Item Global) Global) →
    tokens (v.Group alternatives) ≡ opening ∷ (alternatives_row alternatives.items ++ closing ∷ [])
tokens-Group alternatives =
    ap tokens (sym (rolls-Group alternatives)) ∙ fold-roll-Item (List Token) node_tokens (Item-F.Group alternatives)
    ∙ ap (λ row. opening ∷ (with_commas row ++ closing ∷ [])) (flat_row _ (λ v. refl) alternatives.items)

-- ---- whole groups

pub full-Byte : (b : ℕ) → is_full (v.Byte b) ≡ true
full-Byte b = ap is_full (sym (rolls-Byte b)) ∙ fold-roll-Item Bool node_full (Item-F.Byte b)

pub full-AnyByte : is_full v.AnyByte ≡ true
full-AnyByte = ap is_full (sym rolls-AnyByte) ∙ fold-roll-Item Bool node_full Item-F.AnyByte

pub full-Class : (c : Class) → is_full (v.Class c) ≡ true
full-Class c = ap is_full (sym (rolls-Class c)) ∙ fold-roll-Item Bool node_full (Item-F.Class c)

pub full-Stars : (s : Stars) → is_full (v.Stars s) ≡ true
full-Stars s = ap is_full (sym (rolls-Stars s)) ∙ fold-roll-Item Bool node_full (Item-F.Stars s)

all_row : (f : Vec Item Global → Vec Bool Global) → ((v : Vec Item Global) → (f v).items ≡ map is_full v.items) →
    (alternatives : List (Vec Item Global)) →
    list_all (λ items. list_all (λ full. full) items.items) (map f alternatives) ≡ list_all (λ items. all_full items.items) alternatives
all_row f same [] = refl
all_row f same (a ∷ others) =
    let here : list_all (λ full. full) (f a).items ≡ all_full a.items = rw (same a) (list_all-map (λ full. full) is_full a.items) in
    let there = all_row f same others in cc

-- some alternative, and all of them whole
abbrev pub some_full : List (Vec Item Global) → Bool
some_full alternatives = not (length alternatives == 0) && list_all (λ items. all_full items.items) alternatives

some_row : (f : Vec Item Global → Vec Bool Global) → ((v : Vec Item Global) → (f v).items ≡ map is_full v.items) →
    (alternatives : List (Vec Item Global)) →
    (not (length (map f alternatives) == 0) && list_all (λ items. list_all (λ full. full) items.items) (map f alternatives))
    ≡ some_full alternatives
some_row f same alternatives = cc (length-map alternatives f, all_row f same alternatives)

pub full-Group : (alternatives : Vec (Vec Item Global) Global) → is_full (v.Group alternatives) ≡ some_full alternatives.items
full-Group alternatives =
    ap is_full (sym (rolls-Group alternatives)) ∙ fold-roll-Item Bool node_full (Item-F.Group alternatives)
    ∙ some_row _ (λ v. refl) alternatives.items
