-- The text of items, as it is written: item by item, and alternative by alternative. The letters of a set, one by one.
use Rattle.std.proofs.Common.{◌≡◌, ℕ, zero, suc, ◌+◌, ◌<◌, ◌≤◌, Bool, true, false, cond, List, [], ◌∷◌, ◌++◌, length, map, filter, take}
use Rattle.std.proofs.Common.{get_or, Vec, Global, sym, ap, ◌∙◌, append-nil, append_assoc, arith}
use Rattle.std.specs.Prelude.{codes}
use Rattle.std.specs.List.{flat_map}
use Rattle.std.proofs.lemmas.List.{length-append, length-map, get_or-map, map-append}
use Rattle.std.proofs.lemmas.List.Concat.{flat_map-append}
use Rattle.std.proofs.lemmas.List.Elements.{filter_more}
use Rattle.names.specs.declared.permissions.Permission.{Permission}
use Rattle.names.specs.Permissions.{letter}
use Rattle.rule_writer.specs.Canonical.{token_text}
use Rattle.rule_globs.specs.Tokens.{Token, between, closing, with_commas, tokens, tokens_of}
use Rattle.rule_globs.specs.declared.items.Item.{Item}
use Rattle.rule_globs.specs.declared.items.Item.TheVariants as v
use Rattle.rule_globs.specs.laws.TokenItems.{tokens-Group}

-- the tokens of each alternative
abbrev pub items_parts : List (Vec Item Global) → List (List Token)
items_parts alternatives = map (λ items. tokens_of items.items) alternatives

-- the text of alternatives: a comma is before each except the first
abbrev pub parts_text : Bool → List (List Token) → List ℕ
parts_text true parts = flat_map token_text (with_commas parts)
parts_text false [] = []
parts_text false (part ∷ parts) = codes "," ++ flat_map token_text (with_commas (part ∷ parts))

-- ---- the text of an item

-- a group's text is that of its alternatives, in braces
pub text-Group : (item : Item) (alternatives : Vec (Vec Item Global) Global) → item ≡ v.Group alternatives
    → flat_map token_text (tokens item) ≡ codes "{" ++ (flat_map token_text (with_commas (items_parts alternatives.items)) ++ codes "}")
text-Group item alternatives e =
    ap (λ x. flat_map token_text x) (ap tokens e ∙ tokens-Group alternatives)
    ∙ ap (λ (x : List ℕ). codes "{" ++ x) (flat_map-append token_text (with_commas (items_parts alternatives.items)) (closing ∷ []))

-- ---- how many tokens there are

pub length-Group : (item : Item) (alternatives : Vec (Vec Item Global) Global) → item ≡ v.Group alternatives
    → length (tokens item) ≡ length (with_commas (items_parts alternatives.items)) + 2
length-Group item alternatives e =
    let one : length (tokens item) ≡ suc (length (with_commas (items_parts alternatives.items) ++ closing ∷ [])) =
    ap length (ap tokens e ∙ tokens-Group alternatives) in
    omega (arith, length-append (with_commas (items_parts alternatives.items)) (closing ∷ []))

-- an item has no more tokens than all items have
pub length_item : (items : List Item) (i : ℕ) (item : Item) → i < length items → item ≡ get_or items i item →
    length (tokens item) ≤ length (tokens_of items)
length_item [] i item lt e = absurd (omega arith)
length_item (x ∷ items) zero item lt e =
    let same : length (tokens item) ≡ length (tokens x) = ap (λ y. length (tokens y)) e in
    omega (arith, length-append (tokens x) (tokens_of items))
length_item (x ∷ items) (suc i) item lt e =
    let more = length_item items i item (omega arith) e in
    omega (arith, length-append (tokens x) (tokens_of items))

-- and an alternative no more than all alternatives
length_part : (parts : List (List Token)) (i : ℕ) (part : List Token) → i < length parts → part ≡ get_or parts i part →
    length part ≤ length (with_commas parts)
length_part [] i part lt e = absurd (omega arith)
length_part (p ∷ []) zero part lt e = omega (arith, ap length e)
length_part (p ∷ []) (suc i) part lt e = absurd (omega arith)
length_part (p ∷ q ∷ parts) zero part lt e = omega (arith, ap length e, length-append p (between ∷ with_commas (q ∷ parts)))
length_part (p ∷ q ∷ parts) (suc i) part lt e =
    let more = length_part (q ∷ parts) i part (omega arith) e in
    omega (arith, length-append p (between ∷ with_commas (q ∷ parts)))

pub length_alternative : (alternatives : List (Vec Item Global)) (i : ℕ) (items : Vec Item Global) → i < length alternatives →
    items ≡ get_or alternatives i items
    → length (tokens_of items.items) ≤ length (with_commas (items_parts alternatives))
length_alternative alternatives i items lt e =
    let there : i < length (items_parts alternatives) = omega (arith, length-map alternatives (λ items. tokens_of items.items)) in
    let part : tokens_of items.items ≡ get_or (items_parts alternatives) i (tokens_of items.items) =
    ap (λ (x : Vec Item Global). tokens_of x.items) e ∙ sym (get_or-map (λ items. tokens_of items.items) alternatives i items
    (tokens_of items.items) lt) in
    length_part (items_parts alternatives) i (tokens_of items.items) there part

-- a brace, the alternatives and a brace
pub group_written : (item : Item) (alternatives : Vec (Vec Item Global) Global) (list : List (Vec Item Global))
    (first second third last : List ℕ) → item ≡ v.Group alternatives → list ≡ alternatives.items
    → second ≡ first ++ codes "{" → third ≡ second ++ flat_map token_text (with_commas (items_parts list)) → last ≡ third ++ codes "}" →
    last ≡ first ++ flat_map token_text (tokens item)
group_written item alternatives list first second third last e f g h k =
    let middle : List ℕ = flat_map token_text (with_commas (items_parts alternatives.items)) in
    let same : third ≡ second ++ middle =
    h ∙ ap (λ (x : List (Vec Item Global)). second ++ flat_map token_text (with_commas (items_parts x))) f in
    let regrouped : ((first ++ codes "{") ++ middle) ++ codes "}" ≡ first ++ (codes "{" ++ (middle ++ codes "}")) = simp append_assoc in
    k ∙ ap (λ (x : List ℕ). x ++ codes "}") (same ∙ ap (λ (x : List ℕ). x ++ middle) g) ∙ regrouped ∙ ap (λ (x : List ℕ). first ++ x)
    (sym (text-Group item alternatives e))

-- ---- the letters of the permissions that pass

abbrev pub letters_before : (Permission → Bool) → List Permission → ℕ → List ℕ
letters_before test ps i = map letter (filter test (take i ps))

one_further : (test : Permission → Bool) (ps : List Permission) (i : ℕ) (d : Permission) (passes : Bool) → i < length ps →
    test (get_or ps i d) ≡ passes
    → letters_before test ps (i + 1) ≡ letters_before test ps i ++ map letter (cond passes (get_or ps i d ∷ []) [])
one_further test ps i d passes lt h =
    ap (map letter) (filter_more test ps i d lt)
    ∙ map-append letter (filter test (take i ps)) (cond (test (get_or ps i d)) (get_or ps i d ∷ []) [])
    ∙ ap (λ (b : Bool). letters_before test ps i ++ map letter (cond b (get_or ps i d ∷ []) [])) h

-- the next one passes, and its letter is added
pub letter_added : (test : Permission → Bool) (ps : List Permission) (i : ℕ) (d : Permission) (text old new : List ℕ) → i < length ps →
    test (get_or ps i d) ≡ true → old ≡ text ++ letters_before test ps i → new ≡ old ++ letter (get_or ps i d) ∷ []
    → new ≡ text ++ letters_before test ps (i + 1)
letter_added test ps i d text old new lt h e1 e2 =
    e2 ∙ ap (λ (x : List ℕ). x ++ letter (get_or ps i d) ∷ []) e1
    ∙ append_assoc text (letters_before test ps i) (letter (get_or ps i d) ∷ [])
    ∙ ap (λ (x : List ℕ). text ++ x) (sym (one_further test ps i d true lt h))

-- the next one doesn't pass
pub no_letter_added : (test : Permission → Bool) (ps : List Permission) (i : ℕ) (d : Permission) (text old : List ℕ) → i < length ps →
    test (get_or ps i d) ≡ false → old ≡ text ++ letters_before test ps i → old ≡ text ++ letters_before test ps (i + 1)
no_letter_added test ps i d text old lt h e =
    e ∙ ap (λ (x : List ℕ). text ++ x) (sym (one_further test ps i d false lt h ∙ append-nil (letters_before test ps i)))
