-- The paths that a path is led to match the names that it matches.
use Rattle.std.proofs.Common.{◌≡◌, ◌≢◌, ◌↔◌, inl, inr, ⊎_elim, ℕ, ◌<◌, Bool, true, false, not, ◌&&◌, ◌==◌, IsTrue, List, [], ◌∷◌, ◌++◌}
use Rattle.std.proofs.Common.{length, map, drop, Vec, Global, refl, sym, ap, subst, ◌∙◌, append_assoc, if◌then◌else◌, arith}
use Rattle.std.specs.List.{list_all}
use Rattle.std.proofs.lemmas.Bool.{and_parts}
use Rattle.std.proofs.lemmas.Bool.Decides.{nat_tests}
use Rattle.std.proofs.lemmas.List.{length-map}
use Rattle.std.proofs.lemmas.List.Concat.{flat_map-append}
use Rattle.std.proofs.lemmas.List.Folds.{list_all-append}
use Rattle.rule_globs.specs.Glob.{Glob, empty, one, cat, none, alt, exactly, is_slash, Takes}
use Rattle.rule_globs.specs.Meaning.{meaning, meaning_of, alt_all, alternatives_meaning}
use Rattle.rule_globs.specs.Tokens.{Token, byte, opening, between, closing, with_commas, before, behind_all, pattern_of, tokens, tokens_of}
use Rattle.rule_globs.specs.Tokens.{is_full, all_full}
use Rattle.rule_globs.specs.declared.items.Item.{Item, Item-F, out-Item, out-roll-Item}
use Rattle.rule_globs.specs.declared.items.Item.TheVariants as v
use Rattle.rule_globs.specs.declared.items.Item.TheVariants.{rolls-Byte, rolls-AnyByte, rolls-Class, rolls-Stars, rolls-Group}
use Rattle.rule_globs.specs.laws.MeaningLaws.{meaning-Byte, meaning-Group}
use Rattle.rule_globs.specs.laws.TokenItems.{item_induction, tokens-Byte, tokens-AnyByte, tokens-Class}
use Rattle.rule_globs.specs.laws.TokenItems.{tokens-Stars, tokens-Group, full-Group}
use Rattle.rule_globs.specs.laws.TokenLaws.{in_front, in_front-end, items_stand, each_item, same_pattern}
use Rattle.rule_profile.specs.Readable.{begins_with_slash, begins_with_run, is_path}
use Rattle.rule_profile.specs.PathTokens.{is_plain_slash}
use Rattle.rule_making.specs.Leads.{can_be_split, gives_slash, slash_before, group_leads, slash_leads, front_leads, leads}
use Rattle.rule_making.specs.Leads.{led}

-- ---- patterns that match the same names

abbrev pub Same : Glob → Glob → Type 0
Same a b = (name : List ℕ) → Takes a name ↔ Takes b name

same_if : (a b : Glob) → a ≡ b → Same a b
same_if a b e = subst (λ g. Same a g) e (λ name. (λ t. t, λ t. t))

turned : (a b : Glob) → Same a b → Same b a
turned a b p name = ((p name).1, (p name).0)

chained : (a b c : Glob) → Same a b → Same b c → Same a c
chained a b c p q name = (λ t. (q name).0 ((p name).0 t), λ t. (p name).1 ((q name).1 t))

cat_same : (a b c d : Glob) → Same a b → Same c d → Same (cat a c) (cat b d)
cat_same a b c d p q name = (
  λ t. (t.0, t.1, t.2, (p t.0).0 t.3, (q t.1).0 t.4),
  λ t. (t.0, t.1, t.2, (p t.0).1 t.3, (q t.1).1 t.4),
)

alt_same : (a b c d : Glob) → Same a b → Same c d → Same (alt a c) (alt b d)
alt_same a b c d p q name = (
  ⊎_elim (λ t. inl ((p name).0 t)) (λ t. inr ((q name).0 t)),
  ⊎_elim (λ t. inl ((p name).1 t)) (λ t. inr ((q name).1 t)),
)

cat_assoc : (a b c : Glob) → Same (cat (cat a b) c) (cat a (cat b c))
cat_assoc a b c name = (
  λ t. (t.3.0, t.3.1 ++ t.1, t.2 ∙ ap (λ x. x ++ t.1) t.3.2 ∙ append_assoc t.3.0 t.3.1 t.1, t.3.3, (t.3.1, t.1, refl, t.3.4, t.4)),
  λ t. (t.0 ++ t.4.0, t.4.1, t.2 ∙ ap (λ x. t.0 ++ x) t.4.2 ∙ sym (append_assoc t.0 t.4.0 t.4.1), (t.0, t.4.0, refl, t.3, t.4.3), t.4.4),
)

empty_cat : (a : Glob) → Same (cat empty a) a
empty_cat a name = (
  λ t. subst (Takes a) (sym (t.2 ∙ ap (λ x. x ++ t.1) t.3)) t.4,
  λ t. ([], name, refl, refl, t),
)

alt_none : (a : Glob) → Same (alt a none) a
alt_none a name = (⊎_elim (λ t. t) (λ t. absurd t), λ t. inl t)

none_cat : (a : Glob) → Same (cat none a) none
none_cat a name = (λ t. t.3, λ t. absurd t)

cat_none : (a : Glob) → Same (cat a none) none
cat_none a name = (λ t. t.4, λ t. absurd t)

-- what follows a choice follows each of its alternatives
alt_cat : (a b c : Glob) → Same (cat (alt a b) c) (alt (cat a c) (cat b c))
alt_cat a b c name = (
  λ t. ⊎_elim (λ x. inl (t.0, t.1, t.2, x, t.4)) (λ y. inr (t.0, t.1, t.2, y, t.4)) t.3,
  ⊎_elim (λ t. (t.0, t.1, t.2, inl t.3, t.4)) (λ t. (t.0, t.1, t.2, inr t.3, t.4)),
)

-- what is first in each alternative may go before the choice
cat_alt : (a b c : Glob) → Same (alt (cat a b) (cat a c)) (cat a (alt b c))
cat_alt a b c name = (
  ⊎_elim (λ t. (t.0, t.1, t.2, t.3, inl t.4)) (λ t. (t.0, t.1, t.2, t.3, inr t.4)),
  λ t. ⊎_elim (λ x. inl (t.0, t.1, t.2, t.3, x)) (λ y. inr (t.0, t.1, t.2, t.3, y)) t.4,
)

meaning-append : (xs ys : List Item) → Same (meaning_of (xs ++ ys)) (cat (meaning_of xs) (meaning_of ys))
meaning-append [] ys = turned (cat empty (meaning_of ys)) (meaning_of ys) (empty_cat (meaning_of ys))
meaning-append (x ∷ xs) ys =
    chained (cat (meaning x) (meaning_of (xs ++ ys))) (cat (meaning x) (cat (meaning_of xs) (meaning_of ys)))
    (cat (cat (meaning x) (meaning_of xs)) (meaning_of ys)) (cat_same (meaning x) (meaning x) (meaning_of (xs ++ ys))
    (cat (meaning_of xs) (meaning_of ys)) (same_if (meaning x) (meaning x) refl) (meaning-append xs ys))
    (turned (cat (cat (meaning x) (meaning_of xs)) (meaning_of ys)) (cat (meaning x) (cat (meaning_of xs) (meaning_of ys)))
    (cat_assoc (meaning x) (meaning_of xs) (meaning_of ys)))

-- ---- a path for each alternative

abbrev pub parts_of : List (Vec Item Global) → List (List Token)
parts_of alternatives = map (λ items. tokens_of items.items) alternatives

abbrev all_whole : List (Vec Item Global) → Bool
all_whole alternatives = list_all (λ items. all_full items.items) alternatives

joined_pattern : (xs ys : List Item) → IsTrue (all_full xs) → IsTrue (all_full ys) → meaning_of (xs ++ ys)
    ≡ pattern_of (tokens_of xs ++ tokens_of ys)
joined_pattern xs ys hx hy =
    same_pattern (xs ++ ys) (list_all-append is_full xs ys ∙ ap (λ b. b && all_full ys) hx ∙ hy)
    ∙ ap pattern_of (flat_map-append tokens xs ys)

split_same : (alternatives : List (Vec Item Global)) (follow : List Item) → IsTrue (all_whole alternatives) → IsTrue (all_full follow) →
    Same (cat (alternatives_meaning alternatives) (meaning_of follow))
    (alt_all (map pattern_of (map (λ alternative. alternative ++ tokens_of follow) (parts_of alternatives))))
split_same [] follow whole full = none_cat (meaning_of follow)
split_same (a ∷ alternatives) follow whole full =
    let parts = and_parts (all_full a.items) (all_whole alternatives) whole in
    let m = meaning_of a.items in
    let f = meaning_of follow in
    let rest = alternatives_meaning alternatives in
    let made = alt_all (map pattern_of (map (λ alternative. alternative ++ tokens_of follow) (parts_of alternatives))) in
    let one : Glob = pattern_of (tokens_of a.items ++ tokens_of follow) in
    chained (cat (alt m rest) f) (alt (cat m f) (cat rest f)) (alt one made)
    (alt_cat m rest f)
    (alt_same (cat m f) one (cat rest f) made
    (chained (cat m f) (meaning_of (a.items ++ follow)) one (turned (meaning_of (a.items ++ follow)) (cat m f)
    (meaning-append a.items follow))
    (same_if (meaning_of (a.items ++ follow)) one (joined_pattern a.items follow parts.0 full)))
    (split_same alternatives follow parts.1 full))

-- ---- the slash before the group

abbrev slash : Glob
slash = one (exactly 47)

-- An item that begins with a plain slash is that slash.
abbrev IsSlash : Item → Type 0
IsSlash item = (rest : List Token) → begins_with_slash (tokens item ++ rest) ≡ true → (tokens item ≡ byte 47 ∷ []) × (meaning item ≡ slash)

byte_slash : (b : ℕ) → is_slash b ≡ true → b ≡ 47
byte_slash b h = grind (arith, nat_tests)

no_slash : (item : Item) (t : Token) (others : List Token) → tokens item ≡ t ∷ others → is_plain_slash t ≡ false → IsSlash item
no_slash item t others e n rest h =
    let false_true : false ≡ true = sym n ∙ sym (ap (λ row. begins_with_slash (row ++ rest)) e) ∙ h in absurd cc

is_slash_item : (item : Item) → IsSlash item
is_slash_item = item_induction IsSlash
    (λ b rest h. let e = byte_slash b (sym (ap (λ row. begins_with_slash (row ++ rest)) (tokens-Byte b)) ∙ h) in
    (tokens-Byte b ∙ ap (λ x. byte x ∷ []) e, meaning-Byte b ∙ ap (λ x. one (exactly x)) e))
    (no_slash v.AnyByte _ _ tokens-AnyByte refl)
    (λ c. no_slash (v.Class c) _ _ (tokens-Class c) refl)
    (λ s. no_slash (v.Stars s) _ _ (tokens-Stars s) refl)
    (λ alternatives each. no_slash (v.Group alternatives) _ _ (tokens-Group alternatives) refl)

slash_first : (row : List Token) → gives_slash row ≡ true → begins_with_slash row ≡ true
slash_first [] h = h
slash_first (t ∷ row) h = (and_parts (is_plain_slash t) (not (begins_with_run row)) h).0

-- such items are a slash and others
pub opened : (items : List Item) → gives_slash (tokens_of items) ≡ true →
    (drop 1 (tokens_of items) ≡ tokens_of (drop 1 items)) × (meaning_of items ≡ cat slash (meaning_of (drop 1 items)))
opened [] h = absurd cc
opened (item ∷ items) h =
    let is = is_slash_item item (tokens_of items) (slash_first (tokens_of (item ∷ items)) h) in
    (ap (λ row. drop 1 (row ++ tokens_of items)) is.0, ap (λ g. cat g (meaning_of items)) is.1)

not_true : (b : Bool) → not b ≡ true → b ≡ false
not_true true h = sym h
not_true false h = refl

-- the same by their tokens; no run follows the slash
pub slash_row : (items : List Item) → gives_slash (tokens_of items) ≡ true →
    (tokens_of items ≡ byte 47 ∷ tokens_of (drop 1 items)) × (begins_with_run (tokens_of (drop 1 items)) ≡ false)
slash_row [] h = absurd cc
slash_row (item ∷ items) h =
    let is = is_slash_item item (tokens_of items) (slash_first (tokens_of (item ∷ items)) h) in (
      ap (λ row. row ++ tokens_of items) is.0,
      not_true (begins_with_run (tokens_of items))
          (subst (λ row. gives_slash (row ++ tokens_of items) ≡ true) is.0 h),
    )

-- the alternatives without their slashes
abbrev bare : List (Vec Item Global) → List (List Item)
bare alternatives = map (λ items. drop 1 items.items) alternatives

bare_parts : (alternatives : List (Vec Item Global)) → list_all gives_slash (parts_of alternatives) ≡ true →
    map (drop 1) (parts_of alternatives) ≡ map tokens_of (bare alternatives)
bare_parts [] h = refl
bare_parts (a ∷ alternatives) h =
    let parts = and_parts (gives_slash (tokens_of a.items)) (list_all gives_slash (parts_of alternatives)) h in
    let here = (opened a.items parts.0).0 in
    let there = bare_parts alternatives parts.1 in cc

factor_same : (alternatives : List (Vec Item Global)) → list_all gives_slash (parts_of alternatives) ≡ true →
    Same (alternatives_meaning alternatives) (cat slash (alt_all (map meaning_of (bare alternatives))))
factor_same [] h = turned (cat slash none) none (cat_none slash)
factor_same (a ∷ alternatives) h =
    let parts = and_parts (gives_slash (tokens_of a.items)) (list_all gives_slash (parts_of alternatives)) h in
    let m = meaning_of (drop 1 a.items) in
    let rest = alt_all (map meaning_of (bare alternatives)) in
    chained (alt (meaning_of a.items) (alternatives_meaning alternatives)) (alt (cat slash m) (cat slash rest)) (cat slash (alt m rest))
    (alt_same (meaning_of a.items) (cat slash m) (alternatives_meaning alternatives) (cat slash rest)
    (same_if (meaning_of a.items) (cat slash m) (opened a.items parts.0).1) (factor_same alternatives parts.1))
    (cat_alt slash m rest)

-- the pattern of a row of alternatives that are whole, after a brace
rows_stand : (first : List Item) (others : List (List Item)) (rest : List Token) → IsTrue (list_all all_full (first ∷ others)) →
    behind_all (with_commas (map tokens_of (first ∷ others)) ++ (closing ∷ rest))
    ≡ record { here = meaning_of first; groups = (alt_all (map meaning_of others), (behind_all rest).here) ∷ (behind_all rest).groups }
rows_stand first [] rest full =
    items_stand first (each_item first) (closing ∷ rest) (and_parts (all_full first) true full).0
    ∙ in_front-end first ((none, (behind_all rest).here) ∷ (behind_all rest).groups)
rows_stand first (second ∷ others) rest full =
    let parts = and_parts (all_full first) (list_all all_full (second ∷ others)) full in
    ap behind_all (append_assoc (tokens_of first) (between ∷ with_commas (map tokens_of (second ∷ others))) (closing ∷ rest))
    ∙ items_stand first (each_item first) (between ∷ (with_commas (map tokens_of (second ∷ others)) ++ (closing ∷ rest))) parts.0
    ∙ ap (λ b. in_front first (before between b)) (rows_stand second others rest parts.1)
    ∙ in_front-end first ((alt_all (map meaning_of (second ∷ others)), (behind_all rest).here) ∷ (behind_all rest).groups)

row_pattern : (rows : List (List Item)) (follow : List Item) → 0 < length rows → IsTrue (list_all all_full rows) →
    IsTrue (all_full follow) →
    pattern_of (byte 47 ∷ opening ∷ (with_commas (map tokens_of rows) ++ (closing ∷ tokens_of follow)))
    ≡ cat slash (cat (alt_all (map meaning_of rows)) (meaning_of follow))
row_pattern [] follow some full whole = absurd (omega arith)
row_pattern (first ∷ others) follow some full whole =
    ap (λ b. (before (byte 47) (before opening b)).here) (rows_stand first others (tokens_of follow) full)
    ∙ ap (λ g. cat slash (cat (alt_all (map meaning_of (first ∷ others))) g)) (sym (same_pattern follow whole))

dropped_full : (items : List Item) → IsTrue (all_full items) → IsTrue (all_full (drop 1 items))
dropped_full [] h = h
dropped_full (item ∷ items) h = (and_parts (is_full item) (all_full items) h).1

bare_full : (alternatives : List (Vec Item Global)) → IsTrue (all_whole alternatives) → IsTrue (list_all all_full (bare alternatives))
bare_full [] h = refl
bare_full (a ∷ alternatives) h =
    let parts = and_parts (all_full a.items) (all_whole alternatives) h in
    let here : all_full (drop 1 a.items) ≡ true = dropped_full a.items parts.0 in
    ap (λ b. b && list_all all_full (bare alternatives)) here ∙ bare_full alternatives parts.1

before_same : (alternatives : List (Vec Item Global)) (follow : List Item) → list_all gives_slash (parts_of alternatives) ≡ true →
    0 < length alternatives → IsTrue (all_whole alternatives) → IsTrue (all_full follow) →
    Same (cat (alternatives_meaning alternatives) (meaning_of follow))
    (alt_all (map pattern_of (slash_before (parts_of alternatives) (tokens_of follow) ∷ [])))
before_same alternatives follow h some whole full =
    let f = meaning_of follow in
    let inner = alt_all (map meaning_of (bare alternatives)) in
    let path = pattern_of (slash_before (parts_of alternatives) (tokens_of follow)) in
    let few : 0 < length (bare alternatives) = omega (arith, length-map alternatives (λ (items : Vec Item Global). drop 1 items.items)) in
    let shape : path ≡ cat slash (cat inner f) =
    ap (λ rows. pattern_of (byte 47 ∷ opening ∷ (with_commas rows ++ (closing ∷ tokens_of follow)))) (bare_parts alternatives h)
    ∙ row_pattern (bare alternatives) follow few (bare_full alternatives whole) full in
    chained (cat (alternatives_meaning alternatives) f) (cat (cat slash inner) f) (alt path none)
    (cat_same (alternatives_meaning alternatives) (cat slash inner) f f (factor_same alternatives h) (same_if f f refl))
    (chained (cat (cat slash inner) f) (cat slash (cat inner f)) (alt path none) (cat_assoc slash inner f)
    (chained (cat slash (cat inner f)) path (alt path none) (same_if (cat slash (cat inner f)) path (sym shape))
    (turned (alt path none) path (alt_none path))))

-- ---- whole paths

chosen : (g : Glob) (b c : Bool) (x y : List (List Token)) → (b ≡ true → Same g (alt_all (map pattern_of x))) →
    Same g (alt_all (map pattern_of y)) →
    (if b then x else if c then y else []) ≢ [] → Same g (alt_all (map pattern_of (if b then x else if c then y else [])))
chosen g true c x y p q some = p refl
chosen g false true x y p q some = q
chosen g false false x y p q some = absurd (some refl)

only_if : (g : Glob) (b : Bool) (x : List (List Token)) → Same g (alt_all (map pattern_of x)) →
    (if b then x else []) ≢ [] → Same g (alt_all (map pattern_of (if b then x else [])))
only_if g true x p some = p
only_if g false x p some = absurd (some refl)

group_same : (alternatives : Vec (Vec Item Global) Global) (follow : List Item) → IsTrue (all_full (v.Group alternatives ∷ follow)) →
    group_leads (parts_of alternatives.items) (tokens_of follow) ≢ [] →
    Same (meaning_of (v.Group alternatives ∷ follow))
    (alt_all (map pattern_of (group_leads (parts_of alternatives.items) (tokens_of follow))))
group_same alternatives follow full some =
    let parts = and_parts (is_full (v.Group alternatives)) (all_full follow) full in
    let within = and_parts (not (length alternatives.items == 0)) (all_whole alternatives.items)
    (sym (full-Group alternatives) ∙ parts.0) in
    let few : 0 < length alternatives.items = grind (arith, nat_tests, within.0) in
    let g = cat (alternatives_meaning alternatives.items) (meaning_of follow) in
    let made = group_leads (parts_of alternatives.items) (tokens_of follow) in
    chained (meaning_of (v.Group alternatives ∷ follow)) g (alt_all (map pattern_of made))
    (same_if (meaning_of (v.Group alternatives ∷ follow)) g (ap (λ m. cat m (meaning_of follow)) (meaning-Group alternatives)))
    (chosen g (list_all gives_slash (parts_of alternatives.items)) (can_be_split (parts_of alternatives.items) (tokens_of follow))
    (slash_before (parts_of alternatives.items) (tokens_of follow) ∷ []) (map (λ alternative. alternative ++ tokens_of follow)
    (parts_of alternatives.items))
    (λ h. before_same alternatives.items follow h few within.1 parts.1)
    (split_same alternatives.items follow within.1 parts.1) some)

slash_same : (items : List Item) → IsTrue (all_full items) → slash_leads (tokens_of items) ≢ [] →
    Same (meaning_of items) (alt_all (map pattern_of (slash_leads (tokens_of items))))
slash_same items full some =
    let p = pattern_of (tokens_of items) in
    only_if (meaning_of items) (begins_with_slash (tokens_of items)) (tokens_of items ∷ [])
    (chained (meaning_of items) p (alt p none) (same_if (meaning_of items) p (same_pattern items full))
    (turned (alt p none) p (alt_none p))) some

abbrev LeadsSame : Item → Type 0
LeadsSame item = (follow : List Item) → IsTrue (all_full (item ∷ follow)) → leads (item ∷ follow) ≢ [] →
    Same (meaning_of (item ∷ follow)) (alt_all (map pattern_of (leads (item ∷ follow))))

-- the same of an item by its variant
by_variant : (item : Item) (x : Item-F Item) → out-Item item ≡ x →
    ((follow : List Item) → IsTrue (all_full (item ∷ follow)) → front_leads x (tokens_of (item ∷ follow)) (tokens_of follow) ≢ [] →
    Same (meaning_of (item ∷ follow)) (alt_all (map pattern_of (front_leads x (tokens_of (item ∷ follow)) (tokens_of follow))))) →
    LeadsSame item
by_variant item x e h follow =
    subst (λ y. IsTrue (all_full (item ∷ follow)) → front_leads y (tokens_of (item ∷ follow)) (tokens_of follow) ≢ [] →
    Same (meaning_of (item ∷ follow)) (alt_all (map pattern_of (front_leads y (tokens_of (item ∷ follow)) (tokens_of follow)))))
    (sym e) (h follow)

item_same : (item : Item) → LeadsSame item
item_same = item_induction LeadsSame
    (λ b. by_variant (v.Byte b) (Item-F.Byte b) (ap out-Item (sym (rolls-Byte b)) ∙ out-roll-Item (Item-F.Byte b))
    (λ follow. slash_same (v.Byte b ∷ follow)))
    (by_variant v.AnyByte Item-F.AnyByte (ap out-Item (sym rolls-AnyByte) ∙ out-roll-Item Item-F.AnyByte)
    (λ follow. slash_same (v.AnyByte ∷ follow)))
    (λ c. by_variant (v.Class c) (Item-F.Class c) (ap out-Item (sym (rolls-Class c)) ∙ out-roll-Item (Item-F.Class c))
    (λ follow. slash_same (v.Class c ∷ follow)))
    (λ s. by_variant (v.Stars s) (Item-F.Stars s) (ap out-Item (sym (rolls-Stars s)) ∙ out-roll-Item (Item-F.Stars s))
    (λ follow. slash_same (v.Stars s ∷ follow)))
    (λ alternatives each. by_variant (v.Group alternatives) (Item-F.Group alternatives) (ap out-Item (sym (rolls-Group alternatives))
    ∙ out-roll-Item (Item-F.Group alternatives)) (λ follow. group_same alternatives follow))

leads_same : (items : List Item) → IsTrue (all_full items) → leads items ≢ [] →
    Same (meaning_of items) (alt_all (map pattern_of (leads items)))
leads_same [] full some = absurd (some refl)
leads_same (item ∷ follow) full some = item_same item follow full some

leads_some : (items : List Item) → led items ≢ [] → leads items ≢ []
leads_some items some e = some (ap (λ l. if list_all is_path l then l else []) e)

-- A path matches a name exactly if one of the paths that it is led to does.
pub led_same : (items : List Item) → IsTrue (all_full items) → led items ≢ [] →
    Same (meaning_of items) (alt_all (map pattern_of (led items)))
led_same items full some =
    only_if (meaning_of items) (list_all is_path (leads items)) (leads items) (leads_same items full (leads_some items some)) some
