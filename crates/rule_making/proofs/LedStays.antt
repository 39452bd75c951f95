-- Where a path's tokens are allowed as they are, each path that it is led to can be read.
use Rattle.std.proofs.Common.{◌≡◌, suc, ◌+◌, ◌<◌, ◌≤◌, Bool, true, false, not, ◌&&◌, ◌==◌, IsTrue, List, [], ◌∷◌, ◌++◌, length, map, drop}
use Rattle.std.proofs.Common.{Vec, Global, if◌then◌else◌, refl, sym, ap, subst, ◌∙◌, append_assoc, length-append, arith}
use Rattle.std.specs.Prelude.{nat_le}
use Rattle.std.specs.List.{list_all}
use Rattle.std.proofs.lemmas.Bool.{and_parts}
use Rattle.std.proofs.lemmas.Bool.Decides.{nat_tests}
use Rattle.rule_globs.specs.Tokens.{Token, byte, opening, between, closing, with_commas, tokens_of, is_full, all_full}
use Rattle.rule_globs.specs.declared.items.Item.{Item, Item-F, out-Item, out-roll-Item}
use Rattle.rule_globs.specs.declared.items.Item.TheVariants as v
use Rattle.rule_globs.specs.declared.items.Item.TheVariants.{rolls-Byte, rolls-AnyByte, rolls-Class, rolls-Stars, rolls-Group}
use Rattle.rule_globs.specs.laws.TokenItems.{EachWithin, item_induction, alternatives_row, tokens-Group, full-Group}
use Rattle.rule_profile.specs.PathTokens.{is_plain_slash}
use Rattle.rule_profile.specs.Readable.{is_run, begins_with_run, begins_with_slash, are_tokens, is_path}
use Rattle.rule_making.specs.Leads.{can_be_split, ends_with, gives_slash, slash_before, stands_alone, group_leads}
use Rattle.rule_making.specs.Leads.{slash_leads, front_leads}
use Rattle.rule_making.specs.Leads.{leads, led}
use Rattle.rule_making.proofs.Stays.{slash_after, Stay, ItemStays, at_closing, at_between, row_stays, each_stays, all_stay, flag_free}
use Rattle.rule_making.specs.laws.SameNames.{parts_of, opened, slash_row}

each_within : (alternatives : List (Vec Item Global)) → EachWithin ItemStays alternatives
each_within [] = tt
each_within (a ∷ alternatives) = (each_stays a.items, each_within alternatives)

no_both : (b : Bool) → b ≡ true → not b ≡ true → ⊥
no_both true p q = cc
no_both false p q = cc

not_true : (b : Bool) → not b ≡ true → b ≡ false
not_true true h = sym h
not_true false h = refl

path_by : (row : List Token) → begins_with_slash row ≡ true → length row ≤ 1024 → are_tokens false 0 row ≡ true → is_path row ≡ true
path_by row first few h =
    let le : nat_le (length row) 1024 ≡ true = grind (arith, nat_tests) in
    ap (λ b. (b && nat_le (length row) 1024) && are_tokens false 0 row) first ∙ ap (λ b. b && are_tokens false 0 row) le ∙ h

one_less : (row : List Token) → gives_slash row ≡ true → length (drop 1 row) < length row
one_less [] h = absurd cc
one_less (t ∷ row) h = omega arith

-- ---- a path for each alternative

alone_stays : (items : List Item) (follow rest : List Token) → stands_alone follow (tokens_of items) ≡ true →
    are_tokens false 0 follow ≡ true →
    are_tokens false 1 (tokens_of items ++ rest) ≡ true → are_tokens false 0 (tokens_of items ++ follow) ≡ true
alone_stays items follow rest alone end h =
    let row = tokens_of items in
    let p = and_parts (begins_with_slash (row ++ follow))
    (not (ends_with is_run row) && (not (begins_with_run follow) && not (ends_with is_plain_slash row && begins_with_slash follow)))
    alone in
    let q = and_parts (not (ends_with is_run row))
    (not (begins_with_run follow) && not (ends_with is_plain_slash row && begins_with_slash follow)) p.1 in
    let r = and_parts (not (begins_with_run follow)) (not (ends_with is_plain_slash row && begins_with_slash follow)) q.1 in
    let stay = all_stay items false 1 0 rest follow (omega arith) (λ run. absurd (no_both (ends_with is_run row) run q.0)) h in
    stay.moved (flag_free (slash_after false row) false 0 follow (not_true (begins_with_run follow) r.0) ∙ end)

one_path : (items : List Item) (follow rest : List Token) → stands_alone follow (tokens_of items) ≡ true →
    are_tokens false 0 follow ≡ true →
    are_tokens false 1 (tokens_of items ++ rest) ≡ true → length (tokens_of items) + length follow ≤ 1024 →
    is_path (tokens_of items ++ follow) ≡ true
one_path items follow rest alone end h few =
    let row = tokens_of items in
    let p = and_parts (begins_with_slash (row ++ follow))
    (not (ends_with is_run row) && (not (begins_with_run follow) && not (ends_with is_plain_slash row && begins_with_slash follow)))
    alone in
    path_by (row ++ follow) p.0 (omega (arith, length-append row follow)) (alone_stays items follow rest alone end h)

all_alone : (alternatives : List (Vec Item Global)) (follow : List Token) → list_all (stands_alone follow) (parts_of alternatives) ≡ true →
    are_tokens false 0 follow ≡ true → are_tokens false 1 (alternatives_row alternatives ++ (closing ∷ follow)) ≡ true →
    length (alternatives_row alternatives) + length follow ≤ 1024 →
    list_all is_path (map (λ alternative. alternative ++ follow) (parts_of alternatives)) ≡ true
all_alone [] follow alone end h few = refl
all_alone (a ∷ []) follow alone end h few =
    let p = and_parts (stands_alone follow (tokens_of a.items)) true alone in
    ap (λ b. b && true) (one_path a.items follow (closing ∷ follow) p.0 end h (omega arith))
all_alone (a ∷ second ∷ others) follow alone end h few =
    let row = tokens_of a.items in
    let more = alternatives_row (second ∷ others) in
    let p = and_parts (stands_alone follow row) (list_all (stands_alone follow) (parts_of (second ∷ others))) alone in
    let long : length (row ++ (between ∷ more)) ≡ length row + suc (length more) = length-append row (between ∷ more) in
    let here = ap (are_tokens false 1) (sym (append_assoc row (between ∷ more) (closing ∷ follow))) ∙ h in
    let stay = all_stay a.items false 1 1 (between ∷ (more ++ (closing ∷ follow))) (between ∷ (more ++ (closing ∷ follow))) (omega arith)
    (λ _. record { run = refl; slash = refl }) here in
    let next = sym (at_between (slash_after false row) 0 (more ++ (closing ∷ follow))) ∙ stay.rest in
    ap (λ b. b && list_all is_path (map (λ alternative. alternative ++ follow) (parts_of (second ∷ others))))
    (one_path a.items follow (between ∷ (more ++ (closing ∷ follow))) p.0 end here (omega arith))
    ∙ all_alone (second ∷ others) follow p.1 end next (omega arith)

-- ---- the slash before the group

run_behind : (row rest : List Token) → begins_with_run row ≡ false → begins_with_run rest ≡ false → begins_with_run (row ++ rest) ≡ false
run_behind [] rest p q = q
run_behind (t ∷ row) rest p q = p

-- one alternative without its slash
bare_stays : (items : List Item) (t : Token) (ys zs : List Token) → gives_slash (tokens_of items) ≡ true →
    begins_with_run (t ∷ ys) ≡ false →
    are_tokens false 1 (tokens_of items ++ (t ∷ ys)) ≡ true →
    Stay (tokens_of (drop 1 items)) false 1 1 (t ∷ ys) (t ∷ zs)
bare_stays items t ys zs gives other h =
    let row = tokens_of (drop 1 items) in
    let e : tokens_of items ≡ byte 47 ∷ row = (slash_row items gives).0 in
    let here : are_tokens true 1 (row ++ (t ∷ ys)) ≡ true = ap (λ x. are_tokens false 1 (x ++ (t ∷ ys))) (sym e) ∙ h in
    let free = flag_free false true 1 (row ++ (t ∷ ys)) (run_behind row (t ∷ ys) (slash_row items gives).1 other) ∙ here in
    all_stay (drop 1 items) false 1 1 (t ∷ ys) (t ∷ zs) (omega arith) (λ _. record { run = refl; slash = refl }) free

all_bare : (alternatives : List (Vec Item Global)) (follow : List Token) → list_all gives_slash (parts_of alternatives) ≡ true →
    are_tokens false 0 follow ≡ true → are_tokens false 1 (alternatives_row alternatives ++ (closing ∷ follow)) ≡ true →
    are_tokens false 1 (with_commas (map (drop 1) (parts_of alternatives)) ++ (closing ∷ follow)) ≡ true
all_bare [] follow gives end h = h
all_bare (a ∷ []) follow gives end h =
    let p = and_parts (gives_slash (tokens_of a.items)) true gives in
    let row = tokens_of (drop 1 a.items) in
    let stay = bare_stays a.items closing follow follow p.0 refl h in
    ap (λ x. are_tokens false 1 (x ++ (closing ∷ follow))) (opened a.items p.0).0
    ∙ stay.moved (at_closing (slash_after false row) 0 follow ∙ end)
all_bare (a ∷ second ∷ others) follow gives end h =
    let p = and_parts (gives_slash (tokens_of a.items)) (list_all gives_slash (parts_of (second ∷ others))) gives in
    let row = tokens_of (drop 1 a.items) in
    let more = alternatives_row (second ∷ others) in
    let made = with_commas (map (drop 1) (parts_of (second ∷ others))) in
    let here = ap (are_tokens false 1) (sym (append_assoc (tokens_of a.items) (between ∷ more) (closing ∷ follow))) ∙ h in
    let stay = bare_stays a.items between (more ++ (closing ∷ follow)) (made ++ (closing ∷ follow)) p.0 refl here in
    let next = all_bare (second ∷ others) follow p.1 end (sym (at_between (slash_after false row) 0 (more ++ (closing ∷ follow)))
    ∙ stay.rest) in
    ap (λ x. are_tokens false 1 ((x ++ (between ∷ made)) ++ (closing ∷ follow))) (opened a.items p.0).0
    ∙ ap (are_tokens false 1) (append_assoc row (between ∷ made) (closing ∷ follow))
    ∙ stay.moved (at_between (slash_after false row) 0 (made ++ (closing ∷ follow)) ∙ next)

-- a token less for each alternative
bare_length : (alternatives : List (Vec Item Global)) → list_all gives_slash (parts_of alternatives) ≡ true → 0 < length alternatives →
    length (with_commas (map (drop 1) (parts_of alternatives))) < length (alternatives_row alternatives)
bare_length [] gives some = absurd (omega arith)
bare_length (a ∷ []) gives some =
    let p = and_parts (gives_slash (tokens_of a.items)) true gives in
    omega (arith, one_less (tokens_of a.items) p.0)
bare_length (a ∷ second ∷ others) gives some =
    let p = and_parts (gives_slash (tokens_of a.items)) (list_all gives_slash (parts_of (second ∷ others))) gives in
    let made = with_commas (map (drop 1) (parts_of (second ∷ others))) in
    omega (
      arith,
      one_less (tokens_of a.items) p.0,
      bare_length (second ∷ others) p.1 (omega arith),
      length-append (drop 1 (tokens_of a.items)) (between ∷ made),
      length-append (tokens_of a.items) (between ∷ alternatives_row (second ∷ others)),
    )

-- ---- whole paths

chosen : (b c : Bool) (x y : List (List Token)) → (b ≡ true → list_all is_path x ≡ true) → (c ≡ true → list_all is_path y ≡ true) →
    list_all is_path (if b then x else if c then y else []) ≡ true
chosen true c x y p q = p refl
chosen false true x y p q = q refl
chosen false false x y p q = refl

by_first : (b : Bool) (row : List Token) → (b ≡ true → is_path row ≡ true) → list_all is_path (if b then row ∷ [] else []) ≡ true
by_first false row h = refl
by_first true row h = ap (λ b. b && true) (h refl)

slash_path : (row : List Token) → are_tokens false 0 row ≡ true → length row ≤ 1024 → list_all is_path (slash_leads row) ≡ true
slash_path row h few = by_first (begins_with_slash row) row (λ first. path_by row first few h)

group_path : (alternatives : List (Vec Item Global)) (follow : List Token) → 0 < length alternatives →
    are_tokens false 0 (opening ∷ (alternatives_row alternatives ++ (closing ∷ follow))) ≡ true →
    length (opening ∷ (alternatives_row alternatives ++ (closing ∷ follow))) ≤ 1024 →
    list_all is_path (group_leads (parts_of alternatives) follow) ≡ true
group_path alternatives follow some h few =
    let row = alternatives_row alternatives in
    let long : length (row ++ (closing ∷ follow)) ≡ length row + suc (length follow) = length-append row (closing ∷ follow) in
    let end = (row_stays alternatives (each_within alternatives) 0 0 follow follow (omega arith) h).rest in
    let made = with_commas (map (drop 1) (parts_of alternatives)) in
    chosen (list_all gives_slash (parts_of alternatives)) (can_be_split (parts_of alternatives) follow)
    (slash_before (parts_of alternatives) follow ∷ []) (map (λ alternative. alternative ++ follow) (parts_of alternatives))
    (λ gives. ap (λ b. b && true) (path_by (slash_before (parts_of alternatives) follow) refl
    (omega (arith, bare_length alternatives gives some, length-append made (closing ∷ follow)))
    (all_bare alternatives follow gives end h)))
    (λ can. all_alone alternatives follow (and_parts (nat_le (length (parts_of alternatives)) 16)
    (list_all (stands_alone follow) (parts_of alternatives)) can).1 end h (omega arith))

-- ---- by the variant of the first item

abbrev LeadsRead : Item → Type 0
LeadsRead item = (follow : List Item) → IsTrue (all_full (item ∷ follow)) → are_tokens false 0 (tokens_of (item ∷ follow)) ≡ true →
    length (tokens_of (item ∷ follow)) ≤ 1024 → list_all is_path (leads (item ∷ follow)) ≡ true

by_variant : (item : Item) (x : Item-F Item) → out-Item item ≡ x →
    ((follow : List Item) → IsTrue (all_full (item ∷ follow)) → are_tokens false 0 (tokens_of (item ∷ follow)) ≡ true →
    length (tokens_of (item ∷ follow)) ≤ 1024 → list_all is_path (front_leads x (tokens_of (item ∷ follow)) (tokens_of follow)) ≡ true) →
    LeadsRead item
by_variant item x e h follow full stands few =
    ap (λ y. list_all is_path (front_leads y (tokens_of (item ∷ follow)) (tokens_of follow))) e ∙ h follow full stands few

group_read : (alternatives : Vec (Vec Item Global) Global) (follow : List Item) → IsTrue (all_full (v.Group alternatives ∷ follow)) →
    are_tokens false 0 (tokens_of (v.Group alternatives ∷ follow)) ≡ true → length (tokens_of (v.Group alternatives ∷ follow)) ≤ 1024 →
    list_all is_path (group_leads (parts_of alternatives.items) (tokens_of follow)) ≡ true
group_read alternatives follow full stands few =
    let parts = and_parts (is_full (v.Group alternatives)) (all_full follow) full in
    let within = and_parts (not (length alternatives.items == 0)) (list_all (λ items. all_full items.items) alternatives.items)
    (sym (full-Group alternatives) ∙ parts.0) in
    let some : 0 < length alternatives.items = grind (arith, nat_tests, within.0) in
    let row : tokens_of (v.Group alternatives ∷ follow) ≡ opening ∷ (alternatives_row alternatives.items ++ (closing ∷ tokens_of follow)) =
    ap (λ x. x ++ tokens_of follow) (tokens-Group alternatives) ∙ ap (λ x. opening ∷ x) (append_assoc (alternatives_row alternatives.items)
    (closing ∷ []) (tokens_of follow)) in
    group_path alternatives.items (tokens_of follow) some (ap (are_tokens false 0) (sym row) ∙ stands)
    (subst (λ x. length x ≤ 1024) row few)

item_read : (item : Item) → LeadsRead item
item_read = item_induction LeadsRead
    (λ b. by_variant (v.Byte b) (Item-F.Byte b) (ap out-Item (sym (rolls-Byte b)) ∙ out-roll-Item (Item-F.Byte b))
    (λ follow full. slash_path (tokens_of (v.Byte b ∷ follow))))
    (by_variant v.AnyByte Item-F.AnyByte (ap out-Item (sym rolls-AnyByte) ∙ out-roll-Item Item-F.AnyByte)
    (λ follow full. slash_path (tokens_of (v.AnyByte ∷ follow))))
    (λ c. by_variant (v.Class c) (Item-F.Class c) (ap out-Item (sym (rolls-Class c)) ∙ out-roll-Item (Item-F.Class c))
    (λ follow full. slash_path (tokens_of (v.Class c ∷ follow))))
    (λ s. by_variant (v.Stars s) (Item-F.Stars s) (ap out-Item (sym (rolls-Stars s)) ∙ out-roll-Item (Item-F.Stars s))
    (λ follow full. slash_path (tokens_of (v.Stars s ∷ follow))))
    (λ alternatives each. by_variant (v.Group alternatives) (Item-F.Group alternatives) (ap out-Item (sym (rolls-Group alternatives))
    ∙ out-roll-Item (Item-F.Group alternatives)) (λ follow. group_read alternatives follow))

leads_read : (items : List Item) → IsTrue (all_full items) → are_tokens false 0 (tokens_of items) ≡ true →
    length (tokens_of items) ≤ 1024 →
    list_all is_path (leads items) ≡ true
leads_read [] full stands few = refl
leads_read (item ∷ follow) full stands few = item_read item follow full stands few

-- No path is lost by the test.
pub none_lost : (items : List Item) → IsTrue (all_full items) → are_tokens false 0 (tokens_of items) ≡ true →
    length (tokens_of items) ≤ 1024 → led items ≡ leads items
none_lost items full stands few = ap (λ b. if b then leads items else []) (leads_read items full stands few)
