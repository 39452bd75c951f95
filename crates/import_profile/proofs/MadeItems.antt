-- Tokens that are allowed where they are, are those of some items, each of whose groups has an alternative.
use Rattle.std.proofs.Common.{◌≡◌, ℕ, zero, suc, ◌+◌, ◌-◌, ◌<◌, ◌≤◌, Bool, true, false, not, ◌&&◌, ◌==◌, IsTrue, List, [], ◌∷◌, ◌++◌}
use Rattle.std.proofs.Common.{length, Vec, Global, refl, sym, ap, ◌∙◌, append_assoc, append-nil, length-append, arith}
use Rattle.std.specs.Prelude.{nat_lt}
use Rattle.std.specs.List.{list_all}
use Rattle.std.proofs.lemmas.Bool.{and_parts, and_from}
use Rattle.std.proofs.lemmas.Bool.Decides.{nat_tests}
use denote.RawPtr.{null_ptr}
use Rattle.rule_globs.specs.Tokens.{Token, byte, any_byte, bracket, stars, opening, between, closing, tokens, tokens_of, is_full, all_full}
use Rattle.rule_globs.specs.declared.items.Class.{Class}
use Rattle.rule_globs.specs.declared.items.Stars.{Stars}
use Rattle.rule_globs.specs.declared.items.Item.{Item}
use Rattle.rule_globs.specs.declared.items.Item.TheVariants as v
use Rattle.rule_globs.specs.laws.TokenItems.{alternatives_row, tokens-Byte, tokens-AnyByte, tokens-Class, tokens-Stars, tokens-Group}
use Rattle.rule_globs.specs.laws.TokenItems.{full-Byte, full-AnyByte, full-Class, full-Stars, full-Group}
use Rattle.rule_profile.specs.PathTokens.{is_plain_slash}
use Rattle.rule_profile.specs.Readable.{is_token, are_tokens}
use Rattle.rule_making.specs.laws.Ends.{some_tokens}

-- a vector of these
abbrev vec_of : {X : Type 0} → (items : List X) → length items ≤ 1024 → Vec X Global
vec_of items few = record {
  ptr = null_ptr;
  len = length items;
  cap = length items;
  alloc = record { memory = record { seal = tt } };
  items = items;
  ok = (refl, omega arith);
  small = omega arith;
}

-- An open group: its further alternatives, and the items after it.
abbrev OpenGroup : Type 0
OpenGroup = List (Vec Item Global) × List Item

abbrev further : List (Vec Item Global) → List Token
further [] = []
further (a ∷ others) = between ∷ (tokens_of a.items ++ further others)

-- the tokens from here on: those of the innermost open alternative, and what follows it
abbrev printed : List Item → List OpenGroup → List Token
printed here [] = tokens_of here
printed here (group ∷ groups) = tokens_of here ++ (further group.0 ++ (closing ∷ printed group.1 groups))

abbrev whole_group : OpenGroup → Bool
whole_group group = list_all (λ (items : Vec Item Global). all_full items.items) group.0 && all_full group.1

record Made (row : List Token) (depth : ℕ) : Type 0 where
  here : List Item
  groups : List OpenGroup
  prints : printed here groups ≡ row
  deep : length groups ≡ depth
  full : all_full here ≡ true
  whole : list_all whole_group groups ≡ true

-- ---- how many there are

some_items : (items : List Item) → length items ≤ length (tokens_of items)
some_items [] = omega arith
some_items (item ∷ items) = omega (arith, some_tokens item, some_items items, length-append (tokens item) (tokens_of items))

few_here : (here : List Item) (groups : List OpenGroup) → length here ≤ length (printed here groups)
few_here here [] = some_items here
few_here here (group ∷ groups) =
    omega (arith, some_items here, length-append (tokens_of here) (further group.0 ++ (closing ∷ printed group.1 groups)))

few_further : (others : List (Vec Item Global)) → length others ≤ length (further others)
few_further [] = omega arith
few_further (a ∷ others) = omega (arith, few_further others, length-append (tokens_of a.items) (further others))

few_alternatives : (here : List Item) (group : OpenGroup) (groups : List OpenGroup) →
    length group.0 + 1 ≤ length (printed here (group ∷ groups))
few_alternatives here group groups =
    omega (
      arith,
      few_further group.0,
      length-append (tokens_of here) (further group.0 ++ (closing ∷ printed group.1 groups)),
      length-append (further group.0) (closing ∷ printed group.1 groups),
    )

-- ---- one more token

one_more : (item : Item) (here : List Item) (groups : List OpenGroup) → printed (item ∷ here) groups ≡ tokens item ++ printed here groups
one_more item here [] = refl
one_more item here (group ∷ groups) = append_assoc (tokens item) (tokens_of here) (further group.0 ++ (closing ∷ printed group.1 groups))

plain_made : (item : Item) (t : Token) (row : List Token) (depth : ℕ) → tokens item ≡ t ∷ [] → is_full item ≡ true → Made row depth →
    Made (t ∷ row) depth
plain_made item t row depth et ef m = record {
  here = item ∷ m.here;
  groups = m.groups;
  prints = one_more item m.here m.groups ∙ ap (λ x. x ++ printed m.here m.groups) et ∙ ap (λ x. t ∷ x) m.prints;
  deep = m.deep;
  full = and_from (is_full item) (all_full m.here) ef m.full;
  whole = m.whole;
}

closing_made : (row : List Token) (depth : ℕ) → Made row depth → Made (closing ∷ row) (suc depth)
closing_made row depth m = record {
  here = [];
  groups = ([], m.here) ∷ m.groups;
  prints = ap (λ x. closing ∷ x) m.prints;
  deep = ap (λ n. suc n) m.deep;
  full = refl;
  whole = and_from (all_full m.here) (list_all whole_group m.groups) m.full m.whole;
}

between_made : (row : List Token) (depth : ℕ) (here : List Item) (groups : List OpenGroup) → printed here groups ≡ row →
    length groups ≡ suc depth →
    all_full here ≡ true → list_all whole_group groups ≡ true → length row ≤ 1024 → Made (between ∷ row) (suc depth)
between_made row depth here [] prints deep full whole few = absurd (omega arith)
between_made row depth here (group ∷ groups) prints deep full whole few =
    let w = and_parts (whole_group group) (list_all whole_group groups) whole in
    let g = and_parts (list_all (λ (items : Vec Item Global). all_full items.items) group.0) (all_full group.1) w.0 in
    let room : length here ≤ 1024 = omega (arith, few_here here (group ∷ groups), ap length prints) in
    let all : (all_full here && list_all (λ (items : Vec Item Global). all_full items.items) group.0) ≡ true = and_from _ _ full g.0 in
    record {
      here = [];
      groups = (vec_of here room ∷ group.0, group.1) ∷ groups;
      prints = ap (λ x. between ∷ x) (append_assoc (tokens_of here) (further group.0) (closing ∷ printed group.1 groups) ∙ prints);
      deep = deep;
      full = refl;
      whole = and_from _ _ (and_from _ _ all g.1) w.1;
    }

-- a row of alternatives is the first and the further ones
as_row : (a : Vec Item Global) (others : List (Vec Item Global)) → alternatives_row (a ∷ others) ≡ tokens_of a.items ++ further others
as_row a [] = sym (append-nil (tokens_of a.items))
as_row a (second ∷ others) = ap (λ x. tokens_of a.items ++ (between ∷ x)) (as_row second others)

some_length : (n : ℕ) → not (suc n == 0) ≡ true
some_length n = grind (arith, nat_tests)

group_prints : (a : Vec Item Global) (others : List (Vec Item Global)) (alternatives : Vec (Vec Item Global) Global) (rest : List Token) →
    alternatives.items ≡ a ∷ others → tokens (v.Group alternatives) ++ rest
    ≡ opening ∷ (tokens_of a.items ++ (further others ++ (closing ∷ rest)))
group_prints a others alternatives rest e =
    let row : tokens (v.Group alternatives) ≡ opening ∷ ((tokens_of a.items ++ further others) ++ closing ∷ []) =
    tokens-Group alternatives ∙ ap (λ l. opening ∷ (alternatives_row l ++ closing ∷ [])) e ∙ ap (λ l. opening ∷ (l ++ closing ∷ []))
    (as_row a others) in
    ap (λ l. l ++ rest) row
    ∙ ap (λ l. opening ∷ l) (append_assoc (tokens_of a.items ++ further others) (closing ∷ []) rest ∙ append_assoc (tokens_of a.items)
    (further others) (closing ∷ rest))

opening_made : (row : List Token) (depth : ℕ) (here : List Item) (groups : List OpenGroup) → printed here groups ≡ row →
    length groups ≡ suc depth →
    all_full here ≡ true → list_all whole_group groups ≡ true → length row ≤ 1024 → Made (opening ∷ row) depth
opening_made row depth here [] prints deep full whole few = absurd (omega arith)
opening_made row depth here (group ∷ groups) prints deep full whole few =
    let w = and_parts (whole_group group) (list_all whole_group groups) whole in
    let g = and_parts (list_all (λ (items : Vec Item Global). all_full items.items) group.0) (all_full group.1) w.0 in
    let room : length here ≤ 1024 = omega (arith, few_here here (group ∷ groups), ap length prints) in
    let more : suc (length group.0) ≤ 1024 = omega (arith, few_alternatives here group groups, ap length prints) in
    let a : Vec Item Global = vec_of here room in
    let alternatives : Vec (Vec Item Global) Global = vec_of (a ∷ group.0) more in
    let all : (all_full here && list_all (λ (items : Vec Item Global). all_full items.items) group.0) ≡ true = and_from _ _ full g.0 in
    let is : is_full (v.Group alternatives) ≡ true = full-Group alternatives ∙ and_from _ _ (some_length (length group.0)) all in
    record {
      here = v.Group alternatives ∷ group.1;
      groups = groups;
      prints = one_more (v.Group alternatives) group.1 groups ∙ group_prints a group.0 alternatives (printed group.1 groups)
          (refl {A = List (Vec Item Global)}) ∙ ap (λ x. opening ∷ x) prints;
      deep = omega arith;
      full = and_from _ _ is g.1;
      whole = w.1;
    }

-- ---- all tokens

not_none : (depth : ℕ) → nat_lt 0 depth ≡ true → 0 < depth
not_none depth h = grind (arith, nat_tests)

is_none : (depth : ℕ) → (depth == 0) ≡ true → depth ≡ 0
is_none depth h = grind (arith, nat_tests)

abbrev Makes : List Token → Type 0
Makes row = (after_slash : Bool) (depth : ℕ) → length row ≤ 1024 → are_tokens after_slash depth row ≡ true → Made row depth

one_down : (row : List Token) (depth : ℕ) → 0 < depth → ((n : ℕ) → n ≡ depth - 1 → Made row n) → Made (closing ∷ row) depth
one_down row zero some m = absurd (omega arith)
one_down row (suc depth) some m = closing_made row depth (m depth (omega arith))

within_one : (row : List Token) (depth : ℕ) → 0 < depth → Made row depth → length row ≤ 1024 → Made (between ∷ row) depth
within_one row zero some m few = absurd (omega arith)
within_one row (suc depth) some m few = between_made row depth m.here m.groups m.prints m.deep m.full m.whole few

made : (row : List Token) → Makes row
made [] after_slash depth few h = record { here = []; groups = []; prints = refl; deep = sym (is_none depth h); full = refl; whole = refl }
made (byte b ∷ row) after_slash depth few h =
    let p = and_parts (is_token after_slash depth row (byte b)) (are_tokens (is_plain_slash (byte b)) depth row) h in
    plain_made (v.Byte b) (byte b) row depth (tokens-Byte b) (full-Byte b) (made row (is_plain_slash (byte b)) depth (omega arith) p.1)
made (any_byte ∷ row) after_slash depth few h =
    plain_made v.AnyByte any_byte row depth tokens-AnyByte full-AnyByte (made row false depth (omega arith) h)
made (bracket negated ranges ∷ row) after_slash depth few h =
    let p = and_parts (is_token after_slash depth row (bracket negated ranges)) (are_tokens false depth row) h in
    let c : Class = record { negated = negated; ranges = ranges } in
    plain_made (v.Class c) (bracket negated ranges) row depth (tokens-Class c) (full-Class c) (made row false depth (omega arith) p.1)
made (stars crosses strict ∷ row) after_slash depth few h =
    let p = and_parts (is_token after_slash depth row (stars crosses strict)) (are_tokens false depth row) h in
    let s : Stars = record { crosses_slashes = crosses; strict = strict } in
    plain_made (v.Stars s) (stars crosses strict) row depth (tokens-Stars s) (full-Stars s) (made row false depth (omega arith) p.1)
made (opening ∷ row) after_slash depth few h =
    let p = and_parts (is_token after_slash depth row opening) (are_tokens false (suc depth) row) h in
    let m = made row false (suc depth) (omega arith) p.1 in
    opening_made row depth m.here m.groups m.prints m.deep m.full m.whole (omega arith)
made (between ∷ row) after_slash depth few h =
    let p = and_parts (nat_lt 0 depth) (are_tokens false depth row) h in
    within_one row depth (not_none depth p.0) (made row false depth (omega arith) p.1) (omega arith)
made (closing ∷ row) after_slash depth few h =
    let p = and_parts (nat_lt 0 depth) (are_tokens false (depth - 1) row) h in
    one_down row depth (not_none depth p.0) (λ n e. made row false n (omega arith) (ap (λ k. are_tokens false k row) e ∙ p.1))

-- items with these tokens
pub record ItemsOf (row : List Token) : Type 0 where
  pub items : List Item
  pub tokens : tokens_of items ≡ row
  pub full : IsTrue (all_full items)

at_the_end : (row : List Token) (here : List Item) (groups : List OpenGroup) → printed here groups ≡ row → length groups ≡ 0 →
    all_full here ≡ true → ItemsOf row
at_the_end row here [] prints deep full = record { items = here; tokens = prints; full = full }
at_the_end row here (group ∷ groups) prints deep full = absurd (omega arith)

pub items_made : (row : List Token) → length row ≤ 1024 → are_tokens false 0 row ≡ true → ItemsOf row
items_made row few h =
    let m = made row false 0 few h in
    at_the_end row m.here m.groups m.prints m.deep m.full
