-- Tokens of items stay allowed where they are: less deep in groups, and with other tokens after them.
use Rattle.std.proofs.Common.{◌≡◌, ℕ, suc, ◌-◌, ◌<◌, ◌≤◌, Bool, true, false, ◌&&◌, List, [], ◌∷◌, ◌++◌, length, Vec, Global, refl, sym, ap}
use Rattle.std.proofs.Common.{subst, ◌∙◌, append_assoc, append-nil, length-append, arith}
use Rattle.std.specs.Prelude.{nat_lt}
use Rattle.std.proofs.lemmas.Bool.{and_parts}
use Rattle.std.proofs.lemmas.Bool.Decides.{nat_tests}
use Rattle.rule_globs.specs.Each.{Each}
use Rattle.rule_globs.specs.Tokens.{Token, byte, any_byte, bracket, stars, opening, between, closing, tokens, tokens_of}
use Rattle.rule_globs.specs.declared.items.Item.{Item}
use Rattle.rule_globs.specs.laws.TokenItems.{EachWithin, item_induction, alternatives_row, tokens-Byte, tokens-AnyByte, tokens-Class}
use Rattle.rule_globs.specs.laws.TokenItems.{tokens-Stars, tokens-Group}
use Rattle.rule_profile.specs.PathTokens.{is_plain_slash, slash_or_end_behind}
use Rattle.rule_profile.specs.Readable.{is_run, begins_with_run, is_token, are_tokens}
use Rattle.rule_making.specs.Leads.{ends_with}
use Rattle.rule_making.specs.laws.Ends.{some_tokens, ends-append}

-- these tokens end with a plain slash, or there are none and one is before them
abbrev pub slash_after : Bool → List Token → Bool
slash_after b [] = b
slash_after b (t ∷ row) = slash_after (is_plain_slash t) row

slash_after-append : (b : Bool) (xs ys : List Token) → slash_after b (xs ++ ys) ≡ slash_after (slash_after b xs) ys
slash_after-append b [] ys = refl
slash_after-append b (t ∷ xs) ys = slash_after-append (is_plain_slash t) xs ys

-- both begin alike, for a run of stars before them
pub record Alike (ys zs : List Token) : Type 0 where
  pub run : begins_with_run zs ≡ begins_with_run ys
  pub slash : slash_or_end_behind zs ≡ slash_or_end_behind ys

head_alike : (ws ys zs : List Token) → 0 < length ws → Alike (ws ++ ys) (ws ++ zs)
head_alike [] ys zs some = absurd (omega arith)
head_alike (t ∷ ws) ys zs some = record { run = refl; slash = refl }

-- what follows the tokens may be replaced by other tokens that are allowed there
pub record Stay (row : List Token) (b : Bool) (d e : ℕ) (ys zs : List Token) : Type 0 where
  pub rest : are_tokens (slash_after b row) d ys ≡ true
  pub moved : are_tokens (slash_after b row) e zs ≡ true → are_tokens b e (row ++ zs) ≡ true

abbrev pub Stays : List Token → Type 0
Stays row = (b : Bool) (d e : ℕ) (ys zs : List Token) → e ≤ d → (ends_with is_run row ≡ true → Alike ys zs) →
    are_tokens b d (row ++ ys) ≡ true → Stay row b d e ys zs

abbrev pub ItemStays : Item → Type 0
ItemStays item = Stays (tokens item)

-- ---- one token

both : (a b : Bool) → a ≡ true → b ≡ true → (a && b) ≡ true
both a b p q = ap (λ x. x && b) p ∙ q

byte_stays : (n : ℕ) → Stays (byte n ∷ [])
byte_stays n b d e ys zs le alike h =
    let parts = and_parts (is_token b d ys (byte n)) (are_tokens (is_plain_slash (byte n)) d ys) h in
    record { rest = parts.1; moved = λ q. both (is_token b e zs (byte n)) (are_tokens (is_plain_slash (byte n)) e zs) parts.0 q }

any_stays : Stays (any_byte ∷ [])
any_stays b d e ys zs le alike h = record { rest = h; moved = λ q. q }

bracket_stays : (negated : Bool) (ranges : List _) → Stays (bracket negated ranges ∷ [])
bracket_stays negated ranges b d e ys zs le alike h =
    let parts = and_parts (is_token b d ys (bracket negated ranges)) (are_tokens false d ys) h in
    record { rest = parts.1; moved = λ q. both (is_token b e zs (bracket negated ranges)) (are_tokens false e zs) parts.0 q }

same_strict : (strict : Bool) (crosses b : Bool) (d e : ℕ) (ys zs : List Token) → Alike ys zs →
    is_token b e zs (stars crosses strict) ≡ is_token b d ys (stars crosses strict)
same_strict true crosses b d e ys zs alike = cc (alike.run, alike.slash)
same_strict false crosses b d e ys zs alike = cc (alike.run, alike.slash)

stars_stay : (crosses strict : Bool) → Stays (stars crosses strict ∷ [])
stars_stay crosses strict b d e ys zs le alike h =
    let parts = and_parts (is_token b d ys (stars crosses strict)) (are_tokens false d ys) h in
    record {
      rest = parts.1;
      moved = λ q. both (is_token b e zs (stars crosses strict)) (are_tokens false e zs)
          (same_strict strict crosses b d e ys zs (alike refl) ∙ parts.0) q;
    }

-- ---- items one after another

two_stay : (xs ws : List Token) → Stays xs → Stays ws → 0 < length ws → Stays (xs ++ ws)
two_stay xs ws px pw some b d e ys zs le alike h =
    let first = px b d e (ws ++ ys) (ws ++ zs) le (λ _. head_alike ws ys zs some)
    (ap (are_tokens b d) (sym (append_assoc xs ws ys)) ∙ h) in
    let second = pw (slash_after b xs) d e ys zs le (λ r. alike (ends-append is_run xs ws some ∙ r)) first.rest in
    record {
      rest = ap (λ s. are_tokens s d ys) (slash_after-append b xs ws) ∙ second.rest;
      moved = λ q. ap (are_tokens b e) (append_assoc xs ws zs)
          ∙ first.moved (second.moved (ap (λ s. are_tokens s e zs) (sym (slash_after-append b xs ws)) ∙ q));
    }

none_stay : Stays []
none_stay b d e ys zs le alike h = record { rest = h; moved = λ q. q }

items_stay : (items : List Item) → Each ItemStays items → Stays (tokens_of items)
items_stay [] each = none_stay
items_stay (item ∷ []) each = subst Stays (sym (append-nil (tokens item))) each.0
items_stay (item ∷ second ∷ items) each =
    two_stay (tokens item) (tokens_of (second ∷ items)) each.0 (items_stay (second ∷ items) each.1)
    (omega (arith, some_tokens second, length-append (tokens second) (tokens_of items)))

-- ---- groups

less_one : (d : ℕ) → suc d - 1 ≡ d
less_one d = omega arith

above_none : (d : ℕ) → nat_lt 0 (suc d) ≡ true
above_none d = grind (arith, nat_tests)

pub at_closing : (b : Bool) (d : ℕ) (ys : List Token) → are_tokens b (suc d) (closing ∷ ys) ≡ are_tokens false d ys
at_closing b d ys = ap (λ x. x && are_tokens false (suc d - 1) ys) (above_none d) ∙ ap (λ n. are_tokens false n ys) (less_one d)

pub at_between : (b : Bool) (d : ℕ) (ys : List Token) → are_tokens b (suc d) (between ∷ ys) ≡ are_tokens false (suc d) ys
at_between b d ys = ap (λ x. x && are_tokens false (suc d) ys) (above_none d)

same_head : (t : Token) (ys zs : List Token) → Alike (t ∷ ys) (t ∷ zs)
same_head t ys zs = record { run = refl; slash = refl }

pub record RowStay (row : List Token) (d e : ℕ) (ys zs : List Token) : Type 0 where
  pub rest : are_tokens false d ys ≡ true
  pub moved : are_tokens false e zs ≡ true → are_tokens false (suc e) (row ++ (closing ∷ zs)) ≡ true

pub row_stays : (alternatives : List (Vec Item Global)) → EachWithin ItemStays alternatives → (d e : ℕ) (ys zs : List Token) → e ≤ d →
    are_tokens false (suc d) (alternatives_row alternatives ++ (closing ∷ ys)) ≡ true → RowStay (alternatives_row alternatives) d e ys zs
row_stays [] each d e ys zs le h =
    record { rest = sym (at_closing false d ys) ∙ h; moved = λ q. at_closing false e zs ∙ q }
row_stays (a ∷ []) each d e ys zs le h =
    let row = tokens_of a.items in
    let stay = items_stay a.items each.0 false (suc d) (suc e) (closing ∷ ys) (closing ∷ zs) (omega arith)
    (λ _. same_head closing ys zs) h in
    record {
      rest = sym (at_closing (slash_after false row) d ys) ∙ stay.rest;
      moved =
          λ q. stay.moved (at_closing (slash_after false row) e zs ∙ q);
    }
row_stays (a ∷ second ∷ others) each d e ys zs le h =
    let row = tokens_of a.items in
    let more = alternatives_row (second ∷ others) in
    let stay = items_stay a.items each.0 false (suc d) (suc e) (between ∷ (more ++ (closing ∷ ys))) (between ∷ (more ++ (closing ∷ zs)))
    (omega arith)
    (λ _. same_head between (more ++ (closing ∷ ys)) (more ++ (closing ∷ zs)))
    (ap (are_tokens false (suc d)) (sym (append_assoc row (between ∷ more) (closing ∷ ys))) ∙ h) in
    let next = row_stays (second ∷ others) each.1 d e ys zs le (sym (at_between (slash_after false row) d (more ++ (closing ∷ ys)))
    ∙ stay.rest) in
    record {
      rest = next.rest;
      moved = λ q. ap (are_tokens false (suc e)) (append_assoc row (between ∷ more) (closing ∷ zs))
          ∙ stay.moved (at_between (slash_after false row) e (more ++ (closing ∷ zs)) ∙ next.moved q);
    }

less_deep : (d e : ℕ) → e ≤ d → nat_lt d 50 ≡ true → nat_lt e 50 ≡ true
less_deep d e le h = grind (arith, nat_tests)

group_row : (alternatives : List (Vec Item Global)) (rest : List Token) →
    (opening ∷ (alternatives_row alternatives ++ closing ∷ [])) ++ rest ≡ opening ∷ (alternatives_row alternatives ++ (closing ∷ rest))
group_row alternatives rest = ap (λ row. opening ∷ row) (append_assoc (alternatives_row alternatives) (closing ∷ []) rest)

group_stays : (alternatives : List (Vec Item Global)) → EachWithin ItemStays alternatives →
    Stays (opening ∷ (alternatives_row alternatives ++ closing ∷ []))
group_stays alternatives each b d e ys zs le alike h =
    let row = alternatives_row alternatives in
    let parts = and_parts (nat_lt d 50) (are_tokens false (suc d) (row ++ (closing ∷ ys)))
    (ap (are_tokens b d) (sym (group_row alternatives ys)) ∙ h) in
    let stay = row_stays alternatives each d e ys zs le parts.1 in
    let last : slash_after false (row ++ closing ∷ []) ≡ false = slash_after-append false row (closing ∷ []) in
    record {
      rest = ap (λ s. are_tokens s d ys) last ∙ stay.rest;
      moved = λ q. ap (are_tokens b e) (group_row alternatives zs)
          ∙ both (nat_lt e 50) (are_tokens false (suc e) (row ++ (closing ∷ zs))) (less_deep d e le parts.0)
          (stay.moved (ap (λ s. are_tokens s e zs) (sym last) ∙ q));
    }

item_stays : (item : Item) → ItemStays item
item_stays = item_induction ItemStays
    (λ b. subst Stays (sym (tokens-Byte b)) (byte_stays b))
    (subst Stays (sym tokens-AnyByte) any_stays)
    (λ c. subst Stays (sym (tokens-Class c)) (bracket_stays c.negated c.ranges))
    (λ s. subst Stays (sym (tokens-Stars s)) (stars_stay s.crosses_slashes s.strict))
    (λ alternatives each. subst Stays (sym (tokens-Group alternatives)) (group_stays alternatives.items each))

pub each_stays : (items : List Item) → Each ItemStays items
each_stays [] = tt
each_stays (item ∷ items) = (item_stays item, each_stays items)

pub all_stay : (items : List Item) → Stays (tokens_of items)
all_stay items = items_stay items (each_stays items)

-- ---- a slash before them or not

pub flag_free : (b c : Bool) (d : ℕ) (row : List Token) → begins_with_run row ≡ false → are_tokens b d row ≡ are_tokens c d row
flag_free b c d [] h = refl
flag_free b c d (byte n ∷ row) h = refl
flag_free b c d (any_byte ∷ row) h = refl
flag_free b c d (bracket negated ranges ∷ row) h = refl
flag_free b c d (stars crosses strict ∷ row) h = absurd cc
flag_free b c d (opening ∷ row) h = refl
flag_free b c d (between ∷ row) h = refl
flag_free b c d (closing ∷ row) h = refl
