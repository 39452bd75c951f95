-- The tokens of items determine whether groups are choices, and the paths that the items are led to.
use Rattle.std.proofs.Common.{◌≡◌, ℕ, zero, suc, ◌-◌, ◌<◌, Bool, true, false, not, ◌&&◌, ◌==◌, IsTrue, List, [], ◌∷◌, ◌++◌, length, Vec}
use Rattle.std.proofs.Common.{Global, if◌then◌else◌, refl, sym, ap, subst, ◌∙◌, append_assoc, append-nil, arith}
use Rattle.std.specs.Prelude.{nat_le, ◌||◌}
use Rattle.std.specs.List.{list_all}
use Rattle.std.proofs.lemmas.Bool.{and_parts}
use Rattle.std.proofs.lemmas.Bool.Decides.{nat_tests}
use Rattle.rule_globs.specs.Each.{Each}
use Rattle.rule_globs.specs.Tokens.{Token, byte, any_byte, bracket, stars, opening, between, closing, tokens, tokens_of, is_full, all_full}
use Rattle.rule_globs.specs.declared.items.ByteRange.{ByteRange}
use Rattle.rule_globs.specs.declared.items.Item.{Item, Item-F, out-Item, out-roll-Item, fold-roll-Item}
use Rattle.rule_globs.specs.declared.items.Item.TheVariants as v
use Rattle.rule_globs.specs.declared.items.Item.TheVariants.{rolls-Byte, rolls-AnyByte, rolls-Class, rolls-Stars, rolls-Group}
use Rattle.rule_globs.specs.laws.TokenItems.{EachWithin, item_induction, alternatives_row, tokens-Byte, tokens-AnyByte, tokens-Class}
use Rattle.rule_globs.specs.laws.TokenItems.{tokens-Stars, tokens-Group, full-Group}
use Rattle.rule_profile.specs.Readable.{is_path}
use Rattle.rule_making.specs.Choices.{node_chooses, chooses, all_choose}
use Rattle.rule_making.specs.Leads.{group_leads, slash_leads, front_leads, leads, led}
use Rattle.rule_making.specs.laws.ChoiceLaws.{chooses-Group}
use Rattle.rule_making.specs.laws.SameNames.{parts_of}
use Rattle.import_profile.specs.Groups.{choose_from, groups_choose, Parts, in_front, behind_comma, parts_from, leads_from, led_from}

group_row : (alternatives : List (Vec Item Global)) (rest : List Token) →
    (opening ∷ (alternatives_row alternatives ++ closing ∷ [])) ++ rest ≡ opening ∷ (alternatives_row alternatives ++ (closing ∷ rest))
group_row alternatives rest = ap (λ row. opening ∷ row) (append_assoc (alternatives_row alternatives) (closing ∷ []) rest)

-- ---- choices

abbrev TellsChoice : Item → Type 0
TellsChoice item = (opened : List Bool) (rest : List Token) →
    choose_from opened (tokens item ++ rest) ≡ (chooses item && choose_from opened rest)

one_tells : (item : Item) (t : Token) → tokens item ≡ t ∷ [] → chooses item ≡ true →
    ((opened : List Bool) (rest : List Token) → choose_from opened (t ∷ rest) ≡ choose_from opened rest) → TellsChoice item
one_tells item t et ec same opened rest =
    ap (λ row. choose_from opened (row ++ rest)) et ∙ same opened rest ∙ sym (ap (λ b. b && choose_from opened rest) ec)

and_assoc : (a b c : Bool) → (a && (b && c)) ≡ ((a && b) && c)
and_assoc true b c = refl
and_assoc false b c = refl

items_tell : (items : List Item) → Each TellsChoice items → (opened : List Bool) (rest : List Token) →
    choose_from opened (tokens_of items ++ rest) ≡ (all_choose items && choose_from opened rest)
items_tell [] each opened rest = refl
items_tell (item ∷ items) each opened rest =
    ap (choose_from opened) (append_assoc (tokens item) (tokens_of items) rest)
    ∙ each.0 opened (tokens_of items ++ rest)
    ∙ ap (λ b. chooses item && b) (items_tell items each.1 opened rest)
    ∙ and_assoc (chooses item) (all_choose items) (choose_from opened rest)

no_more : (comma c : Bool) → (comma && c) ≡ ((comma || false) && c)
no_more true c = refl
no_more false c = refl

one_alone : (a comma c : Bool) → (a && (comma && c)) ≡ ((a && true) && ((comma || false) && c))
one_alone true comma c = no_more comma c
one_alone false comma c = refl

with_comma : (a all comma two c : Bool) → two ≡ true → (a && (all && c)) ≡ ((a && all) && ((comma || two) && c))
with_comma a all true two c h = and_assoc a all c
with_comma a all false two c h = and_assoc a all c ∙ ap (λ b. (a && all) && (b && c)) (sym h)

two_or_more : (n : ℕ) → nat_le 2 (suc (suc n)) ≡ true
two_or_more n = grind (arith, nat_tests)

alternatives_tell : (list : List (Vec Item Global)) → EachWithin TellsChoice list → (comma : Bool) (opened : List Bool)
    (rest : List Token) →
    choose_from (comma ∷ opened) (alternatives_row list ++ (closing ∷ rest))
    ≡ (list_all (λ items. all_choose items.items) list && ((comma || nat_le 2 (length list)) && choose_from opened rest))
alternatives_tell [] each comma opened rest = no_more comma (choose_from opened rest)
alternatives_tell (a ∷ []) each comma opened rest =
    items_tell a.items each.0 (comma ∷ opened) (closing ∷ rest) ∙ one_alone (all_choose a.items) comma (choose_from opened rest)
alternatives_tell (a ∷ second ∷ others) each comma opened rest =
    let more = alternatives_row (second ∷ others) in
    ap (choose_from (comma ∷ opened)) (append_assoc (tokens_of a.items) (between ∷ more) (closing ∷ rest))
    ∙ items_tell a.items each.0 (comma ∷ opened) (between ∷ (more ++ (closing ∷ rest)))
    ∙ ap (λ b. all_choose a.items && b) (alternatives_tell (second ∷ others) each.1 true opened rest)
    ∙ with_comma (all_choose a.items) (list_all (λ items. all_choose items.items) (second ∷ others)) comma
    (nat_le 2 (suc (suc (length others)))) (choose_from opened rest) (two_or_more (length others))

in_turn : (two all c : Bool) → (all && ((false || two) && c)) ≡ ((two && all) && c)
in_turn true all c = refl
in_turn false true c = refl
in_turn false false c = refl

group_tells : (alternatives : Vec (Vec Item Global) Global) → EachWithin TellsChoice alternatives.items →
    TellsChoice (v.Group alternatives)
group_tells alternatives each opened rest =
    let all = list_all (λ (items : Vec Item Global). all_choose items.items) alternatives.items in
    ap (λ row. choose_from opened (row ++ rest)) (tokens-Group alternatives)
    ∙ ap (choose_from opened) (group_row alternatives.items rest)
    ∙ alternatives_tell alternatives.items each false opened rest
    ∙ in_turn (nat_le 2 (length alternatives.items)) all (choose_from opened rest)
    ∙ ap (λ b. b && choose_from opened rest) (sym (chooses-Group alternatives))

item_tells : (item : Item) → TellsChoice item
item_tells = item_induction TellsChoice
    (λ b. one_tells (v.Byte b) (byte b) (tokens-Byte b) (ap chooses (sym (rolls-Byte b)) ∙ fold-roll-Item Bool node_chooses
    (Item-F.Byte b)) (λ opened rest. refl))
    (one_tells v.AnyByte any_byte tokens-AnyByte (ap chooses (sym rolls-AnyByte) ∙ fold-roll-Item Bool node_chooses Item-F.AnyByte)
    (λ opened rest. refl))
    (λ c. one_tells (v.Class c) (bracket c.negated c.ranges) (tokens-Class c) (ap chooses (sym (rolls-Class c))
    ∙ fold-roll-Item Bool node_chooses (Item-F.Class c)) (λ opened rest. refl))
    (λ s. one_tells (v.Stars s) (stars s.crosses_slashes s.strict) (tokens-Stars s) (ap chooses (sym (rolls-Stars s))
    ∙ fold-roll-Item Bool node_chooses (Item-F.Stars s)) (λ opened rest. refl))
    group_tells

each_tells : (items : List Item) → Each TellsChoice items
each_tells [] = tt
each_tells (item ∷ items) = (item_tells item, each_tells items)

and_true : (b : Bool) → (b && true) ≡ b
and_true true = refl
and_true false = refl

-- Each group has a comma of its own exactly if each has two alternatives or more.
pub same_choice : (items : List Item) → groups_choose (tokens_of items) ≡ all_choose items
same_choice items =
    ap groups_choose (sym (append-nil (tokens_of items))) ∙ items_tell items (each_tells items) [] [] ∙ and_true (all_choose items)

-- ---- parts

-- tokens in front of the first alternative
abbrev all_in_front : List Token → Parts → Parts
all_in_front [] parts = parts
all_in_front (t ∷ row) parts = in_front t (all_in_front row parts)

fronts_append : (xs ys : List Token) (parts : Parts) → all_in_front (xs ++ ys) parts ≡ all_in_front xs (all_in_front ys parts)
fronts_append [] ys parts = refl
fronts_append (t ∷ xs) ys parts = ap (in_front t) (fronts_append xs ys parts)

fronts_first : (xs first : List Token) (others : List (List Token)) (follow : List Token) →
    all_in_front xs (record { alternatives = first ∷ others; follow = follow })
    ≡ record { alternatives = (xs ++ first) ∷ others; follow = follow }
fronts_first [] first others follow = refl
fronts_first (t ∷ xs) first others follow = ap (in_front t) (fronts_first xs first others follow)

abbrev GivesParts : Item → Type 0
GivesParts item = (depth : ℕ) (rest : List Token) → parts_from depth (tokens item ++ rest) ≡ all_in_front (tokens item)
    (parts_from depth rest)

one_gives : (item : Item) (t : Token) → tokens item ≡ t ∷ [] →
    ((depth : ℕ) (rest : List Token) → parts_from depth (t ∷ rest) ≡ in_front t (parts_from depth rest)) → GivesParts item
one_gives item t et same depth rest =
    let P : List Token → Type 0 = λ row. parts_from depth (row ++ rest) ≡ all_in_front row (parts_from depth rest) in
    subst P (sym et) (same depth rest)

items_give : (items : List Item) → Each GivesParts items → (depth : ℕ) (rest : List Token) →
    parts_from depth (tokens_of items ++ rest) ≡ all_in_front (tokens_of items) (parts_from depth rest)
items_give [] each depth rest = refl
items_give (item ∷ items) each depth rest =
    ap (parts_from depth) (append_assoc (tokens item) (tokens_of items) rest)
    ∙ each.0 depth (tokens_of items ++ rest)
    ∙ ap (all_in_front (tokens item)) (items_give items each.1 depth rest)
    ∙ sym (fronts_append (tokens item) (tokens_of items) (parts_from depth rest))

byte_front : (b : ℕ) (depth : ℕ) (rest : List Token) → parts_from depth (byte b ∷ rest) ≡ in_front (byte b) (parts_from depth rest)
byte_front b zero rest = refl
byte_front b (suc depth) rest = refl

any_front : (depth : ℕ) (rest : List Token) → parts_from depth (any_byte ∷ rest) ≡ in_front any_byte (parts_from depth rest)
any_front zero rest = refl
any_front (suc depth) rest = refl

bracket_front : (negated : Bool) (ranges : List ByteRange) (depth : ℕ) (rest : List Token) →
    parts_from depth (bracket negated ranges ∷ rest) ≡ in_front (bracket negated ranges) (parts_from depth rest)
bracket_front negated ranges zero rest = refl
bracket_front negated ranges (suc depth) rest = refl

stars_front : (crosses strict : Bool) (depth : ℕ) (rest : List Token) →
    parts_from depth (stars crosses strict ∷ rest) ≡ in_front (stars crosses strict) (parts_from depth rest)
stars_front crosses strict zero rest = refl
stars_front crosses strict (suc depth) rest = refl

opening_front : (depth : ℕ) (rest : List Token) → parts_from depth (opening ∷ rest) ≡ in_front opening (parts_from (suc depth) rest)
opening_front zero rest = refl
opening_front (suc depth) rest = refl

at_closing : (depth : ℕ) (rest : List Token) → parts_from (suc depth) (closing ∷ rest) ≡ in_front closing (parts_from depth rest)
at_closing depth rest =
    let one : suc depth - 1 ≡ depth = omega arith in
    ap (λ n. in_front closing (parts_from n rest)) one

-- the rest of a group within a group
alternatives_give : (list : List (Vec Item Global)) → EachWithin GivesParts list → (depth : ℕ) (rest : List Token) →
    parts_from (suc depth) (alternatives_row list ++ (closing ∷ rest)) ≡ all_in_front (alternatives_row list ++ closing ∷ [])
    (parts_from depth rest)
alternatives_give [] each depth rest = at_closing depth rest
alternatives_give (a ∷ []) each depth rest =
    items_give a.items each.0 (suc depth) (closing ∷ rest)
    ∙ ap (all_in_front (tokens_of a.items)) (at_closing depth rest)
    ∙ sym (fronts_append (tokens_of a.items) (closing ∷ []) (parts_from depth rest))
alternatives_give (a ∷ second ∷ others) each depth rest =
    let more = alternatives_row (second ∷ others) in
    ap (parts_from (suc depth)) (append_assoc (tokens_of a.items) (between ∷ more) (closing ∷ rest))
    ∙ items_give a.items each.0 (suc depth) (between ∷ (more ++ (closing ∷ rest)))
    ∙ ap (λ p. all_in_front (tokens_of a.items) (in_front between p)) (alternatives_give (second ∷ others) each.1 depth rest)
    ∙ sym (fronts_append (tokens_of a.items) (between ∷ (more ++ closing ∷ [])) (parts_from depth rest))
    ∙ ap (λ row. all_in_front row (parts_from depth rest)) (sym (append_assoc (tokens_of a.items) (between ∷ more) (closing ∷ [])))

group_gives : (alternatives : Vec (Vec Item Global) Global) → EachWithin GivesParts alternatives.items → GivesParts (v.Group alternatives)
group_gives alternatives each depth rest =
    let P : List Token → Type 0 = λ row. parts_from depth (row ++ rest) ≡ all_in_front row (parts_from depth rest) in
    subst P (sym (tokens-Group alternatives))
    (ap (parts_from depth) (group_row alternatives.items rest)
    ∙ opening_front depth (alternatives_row alternatives.items ++ (closing ∷ rest))
    ∙ ap (in_front opening) (alternatives_give alternatives.items each depth rest))

item_gives : (item : Item) → GivesParts item
item_gives = item_induction GivesParts
    (λ b. one_gives (v.Byte b) (byte b) (tokens-Byte b) (byte_front b))
    (one_gives v.AnyByte any_byte tokens-AnyByte any_front)
    (λ c. one_gives (v.Class c) (bracket c.negated c.ranges) (tokens-Class c) (bracket_front c.negated c.ranges))
    (λ s. one_gives (v.Stars s) (stars s.crosses_slashes s.strict) (tokens-Stars s) (stars_front s.crosses_slashes s.strict))
    group_gives

each_gives : (items : List Item) → Each GivesParts items
each_gives [] = tt
each_gives (item ∷ items) = (item_gives item, each_gives items)

row_parts : (list : List (Vec Item Global)) (rest : List Token) → 0 < length list →
    parts_from 0 (alternatives_row list ++ (closing ∷ rest)) ≡ record { alternatives = parts_of list; follow = rest }
row_parts [] rest some = absurd (omega arith)
row_parts (a ∷ []) rest some =
    items_give a.items (each_gives a.items) 0 (closing ∷ rest) ∙ fronts_first (tokens_of a.items) [] [] rest
    ∙ ap (λ row. record { alternatives = row ∷ []; follow = rest }) (append-nil (tokens_of a.items))
row_parts (a ∷ second ∷ others) rest some =
    let more = alternatives_row (second ∷ others) in
    let parts = parts_of (second ∷ others) in
    ap (parts_from 0) (append_assoc (tokens_of a.items) (between ∷ more) (closing ∷ rest))
    ∙ items_give a.items (each_gives a.items) 0 (between ∷ (more ++ (closing ∷ rest)))
    ∙ ap (λ p. all_in_front (tokens_of a.items) (behind_comma p)) (row_parts (second ∷ others) rest (omega arith))
    ∙ fronts_first (tokens_of a.items) [] parts rest
    ∙ ap (λ row. record { alternatives = row ∷ parts; follow = rest }) (append-nil (tokens_of a.items))

-- ---- leads

abbrev TellsLeads : Item → Type 0
TellsLeads item = (follow : List Item) → IsTrue (all_full (item ∷ follow)) → leads_from (tokens item ++ tokens_of follow)
    ≡ leads (item ∷ follow)

-- the same of an item by its variant
by_variant : (item : Item) (x : Item-F Item) → out-Item item ≡ x →
    ((follow : List Item) → IsTrue (all_full (item ∷ follow)) →
    leads_from (tokens item ++ tokens_of follow) ≡ front_leads x (tokens item ++ tokens_of follow) (tokens_of follow)) → TellsLeads item
by_variant item x e h follow full =
    h follow full ∙ ap (λ y. front_leads y (tokens item ++ tokens_of follow) (tokens_of follow)) (sym e)

one_leads : (item : Item) (t : Token) → tokens item ≡ t ∷ [] → ((rest : List Token) → leads_from (t ∷ rest) ≡ slash_leads (t ∷ rest)) →
    (follow : List Item) → leads_from (tokens item ++ tokens_of follow) ≡ slash_leads (tokens item ++ tokens_of follow)
one_leads item t et same follow =
    let P : List Token → Type 0 = λ row. leads_from (row ++ tokens_of follow) ≡ slash_leads (row ++ tokens_of follow) in
    subst P (sym et) (same (tokens_of follow))

group_told : (alternatives : Vec (Vec Item Global) Global) (follow : List Item) → IsTrue (all_full (v.Group alternatives ∷ follow)) →
    leads_from (tokens (v.Group alternatives) ++ tokens_of follow) ≡ group_leads (parts_of alternatives.items) (tokens_of follow)
group_told alternatives follow full =
    let parts = and_parts (is_full (v.Group alternatives)) (all_full follow) full in
    let within = and_parts (not (length alternatives.items == 0)) (list_all (λ items. all_full items.items) alternatives.items)
    (sym (full-Group alternatives) ∙ parts.0) in
    let few : 0 < length alternatives.items = grind (arith, nat_tests, within.0) in
    ap (λ row. leads_from (row ++ tokens_of follow)) (tokens-Group alternatives)
    ∙ ap leads_from (group_row alternatives.items (tokens_of follow))
    ∙ ap (λ p. group_leads p.alternatives p.follow) (row_parts alternatives.items (tokens_of follow) few)

item_leads : (item : Item) → TellsLeads item
item_leads = item_induction TellsLeads
    (λ b. by_variant (v.Byte b) (Item-F.Byte b) (ap out-Item (sym (rolls-Byte b)) ∙ out-roll-Item (Item-F.Byte b))
    (λ follow full. one_leads (v.Byte b) (byte b) (tokens-Byte b) (λ rest. refl) follow))
    (by_variant v.AnyByte Item-F.AnyByte (ap out-Item (sym rolls-AnyByte) ∙ out-roll-Item Item-F.AnyByte)
    (λ follow full. one_leads v.AnyByte any_byte tokens-AnyByte (λ rest. refl) follow))
    (λ c. by_variant (v.Class c) (Item-F.Class c) (ap out-Item (sym (rolls-Class c)) ∙ out-roll-Item (Item-F.Class c))
    (λ follow full. one_leads (v.Class c) (bracket c.negated c.ranges) (tokens-Class c) (λ rest. refl) follow))
    (λ s. by_variant (v.Stars s) (Item-F.Stars s) (ap out-Item (sym (rolls-Stars s)) ∙ out-roll-Item (Item-F.Stars s))
    (λ follow full. one_leads (v.Stars s) (stars s.crosses_slashes s.strict) (tokens-Stars s) (λ rest. refl) follow))
    (λ alternatives each. by_variant (v.Group alternatives) (Item-F.Group alternatives) (ap out-Item (sym (rolls-Group alternatives))
    ∙ out-roll-Item (Item-F.Group alternatives)) (λ follow full. group_told alternatives follow full))

leads_told : (items : List Item) → IsTrue (all_full items) → leads_from (tokens_of items) ≡ leads items
leads_told [] full = refl
leads_told (item ∷ follow) full = item_leads item follow full

-- The paths that items are led to are determined by their tokens.
pub same_leads : (items : List Item) → IsTrue (all_full items) → led_from (tokens_of items) ≡ led items
same_leads items full = ap (λ paths. if list_all is_path paths then paths else []) (leads_told items full)
