-- The items of a path and the row of its tokens stand for the same pattern, and have enough places.
use Rattle.std.proofs.Common.{◌≡◌, ◌≤◌, ◌*◌, IsTrue, Bool, true, false, not, ◌==◌, List, [], ◌∷◌, ◌++◌, length, Vec, Global, refl, sym, ap}
use Rattle.std.proofs.Common.{◌∙◌, append_assoc, append-nil, arith, length-append}
use Rattle.std.proofs.lemmas.Bool.{and_parts}
use Rattle.std.specs.List.{list_all}
use Rattle.rule_globs.specs.Glob.{Glob, empty, none, places}
use Rattle.rule_globs.specs.Meaning.{meaning, meaning_of, alternatives_meaning, stars_glob}
use Rattle.rule_globs.specs.Tokens.{Token, opening, between, closing, Behind, one_more, before, behind_all, pattern_of, tokens, tokens_of}
use Rattle.rule_globs.specs.Tokens.{is_full, all_full}
use Rattle.rule_globs.specs.declared.items.Item.{Item}
use Rattle.rule_globs.specs.declared.items.Item.TheVariants as v
use Rattle.rule_globs.specs.laws.MeaningLaws.{meaning-Byte, meaning-AnyByte, meaning-Class, meaning-Stars, meaning-Group}
use Rattle.rule_globs.specs.laws.TokenItems.{EachWithin, item_induction, alternatives_row, tokens-Byte, tokens-AnyByte, tokens-Class}
use Rattle.rule_globs.specs.laws.TokenItems.{tokens-Stars, tokens-Group, some_full, full-Group}
use Rattle.rule_globs.specs.Each.{Each}

-- ---- the pattern

-- the patterns, one after another, in front of what follows them
abbrev pub in_front : List Item → Behind → Behind
in_front [] behind = behind
in_front (item ∷ items) behind = one_more (meaning item) (in_front items behind)

pub in_front-end : (items : List Item) (groups : List (Glob × Glob)) →
    in_front items (record { here = empty; groups = groups }) ≡ record { here = meaning_of items; groups = groups }
in_front-end [] groups = refl
in_front-end (item ∷ items) groups = ap (one_more (meaning item)) (in_front-end items groups)

-- The item's tokens put its pattern in front.
abbrev pub StandsFor : Item → Type 0
StandsFor item = (rest : List Token) → IsTrue (is_full item) →
    behind_all (tokens item ++ rest) ≡ one_more (meaning item) (behind_all rest)

pub items_stand : (items : List Item) → Each StandsFor items → (rest : List Token) → IsTrue (all_full items) →
    behind_all (tokens_of items ++ rest) ≡ in_front items (behind_all rest)
items_stand [] each rest full = refl
items_stand (item ∷ items) each rest full =
    let parts = and_parts (is_full item) (all_full items) full in
    ap behind_all (append_assoc (tokens item) (tokens_of items) rest)
    ∙ each.0 (tokens_of items ++ rest) parts.0 ∙ ap (one_more (meaning item)) (items_stand items each.1 rest parts.1)

-- after the opening brace of a group
abbrev within : List (Vec Item Global) → Behind → Behind
within [] behind = behind
within (first ∷ others) behind =
    record { here = meaning_of first.items; groups = (alternatives_meaning others, behind.here) ∷ behind.groups }

alternatives_stand : (first : Vec Item Global) (others : List (Vec Item Global)) → EachWithin StandsFor (first ∷ others) →
    (rest : List Token) → IsTrue (list_all (λ items. all_full items.items) (first ∷ others)) →
    behind_all (alternatives_row (first ∷ others) ++ (closing ∷ rest)) ≡ within (first ∷ others) (behind_all rest)
alternatives_stand first [] each rest full =
    items_stand first.items each.0 (closing ∷ rest) (and_parts (all_full first.items) true full).0
    ∙ in_front-end first.items ((none, (behind_all rest).here) ∷ (behind_all rest).groups)
alternatives_stand first (second ∷ others) each rest full =
    let parts = and_parts (all_full first.items) (list_all (λ items. all_full items.items) (second ∷ others)) full in
    ap behind_all (append_assoc (tokens_of first.items) (between ∷ alternatives_row (second ∷ others)) (closing ∷ rest))
    ∙ items_stand first.items each.0 (between ∷ (alternatives_row (second ∷ others) ++ (closing ∷ rest))) parts.0
    ∙ ap (λ b. in_front first.items (before between b)) (alternatives_stand second others each.1 rest parts.1)
    ∙ in_front-end first.items ((alternatives_meaning (second ∷ others), (behind_all rest).here) ∷ (behind_all rest).groups)

group_row : (alternatives : Vec (Vec Item Global) Global) (list : List (Vec Item Global)) (rest : List Token) → alternatives.items ≡ list →
    tokens (v.Group alternatives) ++ rest ≡ opening ∷ (alternatives_row list ++ (closing ∷ rest))
group_row alternatives list rest e =
    ap (λ row. row ++ rest) (tokens-Group alternatives) ∙ ap (λ l. (opening ∷ (alternatives_row l ++ closing ∷ [])) ++ rest) e
    ∙ ap (λ row. opening ∷ row) (append_assoc (alternatives_row list) (closing ∷ []) rest)

group_stands : (alternatives : Vec (Vec Item Global) Global) (list : List (Vec Item Global)) → alternatives.items ≡ list →
    EachWithin StandsFor list → StandsFor (v.Group alternatives)
group_stands alternatives [] e each rest full =
    let some : some_full [] ≡ true = sym (full-Group alternatives ∙ ap some_full e) ∙ full in absurd cc
group_stands alternatives (first ∷ others) e each rest full =
    let some : some_full (first ∷ others) ≡ true = sym (full-Group alternatives ∙ ap some_full e) ∙ full in
    ap behind_all (group_row alternatives (first ∷ others) rest e)
    ∙ ap (before opening) (alternatives_stand first others each rest
    (and_parts (not (length (first ∷ others) == 0)) (list_all (λ items. all_full items.items) (first ∷ others)) some).1)
    ∙ ap (λ m. one_more m (behind_all rest)) (sym (meaning-Group alternatives ∙ ap alternatives_meaning e))

one_stands : (item : Item) (t : Token) (g : Glob) → tokens item ≡ t ∷ [] → meaning item ≡ g →
    ((behind : Behind) → before t behind ≡ one_more g behind) → StandsFor item
one_stands item t g et eg same rest full =
    ap (λ row. behind_all (row ++ rest)) et ∙ same (behind_all rest) ∙ ap (λ m. one_more m (behind_all rest)) (sym eg)

item_stands : (item : Item) → StandsFor item
item_stands = item_induction StandsFor
    (λ b. one_stands (v.Byte b) _ _ (tokens-Byte b) (meaning-Byte b) (λ _. refl))
    (one_stands v.AnyByte _ _ tokens-AnyByte meaning-AnyByte (λ _. refl))
    (λ c. one_stands (v.Class c) _ _ (tokens-Class c) (meaning-Class c) (λ _. refl))
    (λ s. one_stands (v.Stars s) _ _ (tokens-Stars s) (meaning-Stars s) (λ _. refl))
    (λ alternatives each. group_stands alternatives alternatives.items refl each)

pub each_item : (items : List Item) → Each StandsFor items
each_item [] = tt
each_item (item ∷ items) = (item_stands item, each_item items)

-- The pattern of the items is that of their tokens.
pub same_pattern : (items : List Item) → IsTrue (all_full items) → meaning_of items ≡ pattern_of (tokens_of items)
same_pattern items full =
    let e : behind_all (tokens_of items ++ []) ≡ record { here = meaning_of items; groups = [] } =
    items_stand items (each_item items) [] full ∙ in_front-end items [] in
    sym (ap (λ b. b.here) (ap behind_all (sym (append-nil (tokens_of items))) ∙ e))

-- ---- places

-- two places for each token
abbrev Fits : Item → Type 0
Fits item = places (meaning item) ≤ 2 * length (tokens item)

items_fit : (items : List Item) → Each Fits items → places (meaning_of items) ≤ 2 * length (tokens_of items)
items_fit [] each = omega arith
items_fit (item ∷ items) each = omega (arith, each.0, items_fit items each.1, length-append (tokens item) (tokens_of items))

alternatives_fit : (list : List (Vec Item Global)) → EachWithin Fits list →
    places (alternatives_meaning list) ≤ 2 * length (alternatives_row list)
alternatives_fit [] each = omega arith
alternatives_fit (first ∷ []) each = omega (arith, items_fit first.items each.0)
alternatives_fit (first ∷ second ∷ others) each =
    omega (
      arith,
      items_fit first.items each.0,
      alternatives_fit (second ∷ others) each.1,
      length-append (tokens_of first.items) (between ∷ alternatives_row (second ∷ others)),
    )

one_fits : (item : Item) (t : Token) (g : Glob) → tokens item ≡ t ∷ [] → meaning item ≡ g → places g ≤ 2 → Fits item
one_fits item t g et eg h = rw (et, eg) h

group_fits : (alternatives : Vec (Vec Item Global) Global) → EachWithin Fits alternatives.items → Fits (v.Group alternatives)
group_fits alternatives each =
    rw (tokens-Group alternatives, meaning-Group alternatives)
    (omega (arith, alternatives_fit alternatives.items each, length-append (alternatives_row alternatives.items) (closing ∷ [])))

stars_fit : (crosses_slashes strict : Bool) → places (stars_glob crosses_slashes strict) ≤ 2
stars_fit crosses_slashes true = omega arith
stars_fit crosses_slashes false = omega arith

item_fits : (item : Item) → Fits item
item_fits = item_induction Fits
    (λ b. one_fits (v.Byte b) _ _ (tokens-Byte b) (meaning-Byte b) (omega arith))
    (one_fits v.AnyByte _ _ tokens-AnyByte meaning-AnyByte (omega arith))
    (λ c. one_fits (v.Class c) _ _ (tokens-Class c) (meaning-Class c) (omega arith))
    (λ s. one_fits (v.Stars s) _ _ (tokens-Stars s) (meaning-Stars s) (stars_fit s.crosses_slashes s.strict))
    group_fits

each_fits : (items : List Item) → Each Fits items
each_fits [] = tt
each_fits (item ∷ items) = (item_fits item, each_fits items)

pub places_fit : (items : List Item) → places (meaning_of items) ≤ 2 * length (tokens_of items)
places_fit items = items_fit items (each_fits items)

-- With this few tokens there is room for the places.
pub room_of : (items : List Item) → length (tokens_of items) ≤ 1024 → places (meaning_of items) ≤ 2048
room_of items few = omega (arith, places_fit items)
