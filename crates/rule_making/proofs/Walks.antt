-- The walk goes over items one by one, and over alternatives one by one.
use Rattle.std.proofs.Common.{◌≡◌, ℕ, zero, suc, ◌+◌, ◌<◌, ◌≤◌, List, [], ◌∷◌, ◌++◌, length, map, drop, take, ◌-◌, subst, get_or}
use Rattle.std.proofs.Common.{length-append, Vec, Global, Option, Some, None, refl, sym, ap, ◌∙◌, add-one, arith}
use Rattle.std.proofs.Math.Seq.{take-length}
use Rattle.std.specs.Prelude.{option_and_then}
use Rattle.rule_globs.specs.Tokens.{Token, opening, between, closing, with_commas, tokens, tokens_of}
use Rattle.rule_globs.specs.declared.items.Item.{Item}
use Rattle.rule_globs.specs.declared.items.Item.TheVariants as v
use Rattle.rule_globs.specs.laws.TokenItems.{tokens-Group}
use Rattle.rule_writer.specs.laws.CanonWrites.{length_alternative}
use Rattle.rule_making.specs.declared.place.Place.{Place}
use Rattle.rule_making.specs.inner.TokenTests.{step, walk}

chained : (f g h : Place → Option Place) → ((p : Place) → f p ≡ option_and_then g (h p)) → (o : Option Place) →
    option_and_then f o ≡ option_and_then g (option_and_then h o)
chained f g h same None = refl
chained f g h same (Some p) = same p

and_then_some : (o : Option Place) → option_and_then (λ p. Some p) o ≡ o
and_then_some None = refl
and_then_some (Some p) = refl

ends_with_closing : (o : Option Place) → option_and_then (walk (closing ∷ [])) o ≡ option_and_then (step closing) o
ends_with_closing None = refl
ends_with_closing (Some p) = and_then_some (step closing p)

pub walk-append : (xs ys : List Token) (p : Place) → walk (xs ++ ys) p ≡ option_and_then (walk ys) (walk xs p)
walk-append [] ys p = refl
walk-append (t ∷ xs) ys p = chained (walk (xs ++ ys)) (walk ys) (walk xs) (walk-append xs ys) (step t p)

-- over the alternatives that are left, after another: a comma is before each
abbrev pub walk_rest : List (List Token) → Place → Option Place
walk_rest [] p = Some p
walk_rest (part ∷ parts) p = walk (between ∷ with_commas (part ∷ parts)) p

-- ---- one item or alternative more

items_suc : (items : List Item) (i : ℕ) (item : Item) (p : Place) → i < length items → item ≡ get_or items i item →
    walk (tokens_of (drop i items)) p ≡ option_and_then (walk (tokens_of (drop (suc i) items))) (walk (tokens item) p)
items_suc [] i item p lt e = absurd (omega arith)
items_suc (x ∷ items) zero item p lt e =
    walk-append (tokens x) (tokens_of items) p ∙ ap (λ y. option_and_then (walk (tokens_of items)) (walk (tokens y) p)) (sym e)
items_suc (x ∷ items) (suc i) item p lt e = items_suc items i item p (omega arith) e

pub items_step : (items : List Item) (i : ℕ) (item : Item) (p : Place) → i < length items → item ≡ get_or items i item →
    walk (tokens_of (drop i items)) p ≡ option_and_then (walk (tokens_of (drop (i + 1) items))) (walk (tokens item) p)
items_step items i item p lt e = rw add-one (items_suc items i item p lt e)

-- the tokens of each alternative
abbrev pub parts_of : List (Vec Item Global) → List (List Token)
parts_of alternatives = map (λ items. tokens_of items.items) alternatives

pub first_part : (first : List Token) (parts : List (List Token)) (p : Place) →
    walk (with_commas (first ∷ parts)) p ≡ option_and_then (walk_rest parts) (walk first p)
first_part first [] p = sym (and_then_some (walk first p))
first_part first (second ∷ parts) p = walk-append first (between ∷ with_commas (second ∷ parts)) p

rest_here : (part : List Token) (parts : List (List Token)) (p : Place) →
    walk_rest (part ∷ parts) p ≡ option_and_then (walk_rest parts) (option_and_then (walk part) (step between p))
rest_here part parts p = chained (walk (with_commas (part ∷ parts))) (walk_rest parts) (walk part) (first_part part parts) (step between p)

rest_suc : (alternatives : List (Vec Item Global)) (i : ℕ) (items : Vec Item Global) (p : Place) → i < length alternatives →
    items ≡ get_or alternatives i items →
    walk_rest (parts_of (drop i alternatives)) p
    ≡ option_and_then (walk_rest (parts_of (drop (suc i) alternatives))) (option_and_then (walk (tokens_of items.items)) (step between p))
rest_suc [] i items p lt e = absurd (omega arith)
rest_suc (x ∷ alternatives) zero items p lt e =
    rest_here (tokens_of x.items) (parts_of alternatives) p
    ∙ ap (λ (y : Vec Item Global). option_and_then (walk_rest (parts_of alternatives))
    (option_and_then (walk (tokens_of y.items)) (step between p))) (sym e)
rest_suc (x ∷ alternatives) (suc i) items p lt e = rest_suc alternatives i items p (omega arith) e

pub rest_step : (alternatives : List (Vec Item Global)) (i : ℕ) (items : Vec Item Global) (p : Place) → i < length alternatives →
    items ≡ get_or alternatives i items →
    walk_rest (parts_of (drop i alternatives)) p
    ≡ option_and_then (walk_rest (parts_of (drop (i + 1) alternatives))) (option_and_then (walk (tokens_of items.items)) (step between p))
rest_step alternatives i items p lt e = rw add-one (rest_suc alternatives i items p lt e)

-- a brace, the alternatives and a brace
pub group_step : (alternatives : Vec (Vec Item Global) Global) (p : Place) →
    walk (tokens (v.Group alternatives)) p
    ≡ option_and_then (step closing) (option_and_then (walk (with_commas (parts_of alternatives.items))) (step opening p))
group_step alternatives p =
    ap (λ row. walk row p) (tokens-Group alternatives)
    ∙ chained (walk (with_commas (parts_of alternatives.items) ++ closing ∷ [])) (step closing)
    (walk (with_commas (parts_of alternatives.items))) (λ q. walk-append (with_commas (parts_of alternatives.items)) (closing ∷ []) q
    ∙ ends_with_closing (walk (with_commas (parts_of alternatives.items)) q))
    (step opening p)

-- those after the first, as code has them
abbrev pub others_of : List (Vec Item Global) → List (Vec Item Global)
others_of alternatives = take (length alternatives - 1) (drop 1 alternatives)

others_are : (x : Vec Item Global) (alternatives : List (Vec Item Global)) → others_of (x ∷ alternatives) ≡ alternatives
others_are x alternatives = ap (λ n. take n alternatives) (omega arith) ∙ take-length alternatives

pub all_parts : (alternatives : List (Vec Item Global)) (first : Vec Item Global) (p : Place) → 0 < length alternatives →
    first ≡ get_or alternatives 0 first →
    walk (with_commas (parts_of alternatives)) p ≡ option_and_then (walk_rest (parts_of (others_of alternatives)))
    (walk (tokens_of first.items) p)
all_parts [] first p lt e = absurd (omega arith)
all_parts (x ∷ alternatives) first p lt e =
    first_part (tokens_of x.items) (parts_of alternatives) p
    ∙ ap (λ l. option_and_then (walk_rest (parts_of l)) (walk (tokens_of x.items) p)) (sym (others_are x alternatives))
    ∙ ap (λ (y : Vec Item Global). option_and_then (walk_rest (parts_of (others_of (x ∷ alternatives)))) (walk (tokens_of y.items) p))
    (sym e)

-- ---- how many tokens an alternative has

rest_of_parts : (x : Vec Item Global) (alternatives : List (Vec Item Global)) →
    length (with_commas (parts_of alternatives)) ≤ length (with_commas (parts_of (x ∷ alternatives)))
rest_of_parts x [] = omega arith
rest_of_parts x (y ∷ alternatives) = omega (arith, length-append (tokens_of x.items) (between ∷ with_commas (parts_of (y ∷ alternatives))))

-- one of those after the first
pub length_other : (alternatives : List (Vec Item Global)) (i : ℕ) (items : Vec Item Global) → 0 < length alternatives →
    i < length (others_of alternatives) → items ≡ get_or (others_of alternatives) i items →
    length (tokens_of items.items) ≤ length (with_commas (parts_of alternatives))
length_other [] i items some lt e = absurd (omega arith)
length_other (x ∷ alternatives) i items some lt e =
    let same = others_are x alternatives in
    let within : i < length alternatives = subst (λ l. i < length l) same lt in
    let there : items ≡ get_or alternatives i items = subst (λ l. items ≡ get_or l i items) same e in
    omega (arith, length_alternative alternatives i items within there, rest_of_parts x alternatives)
