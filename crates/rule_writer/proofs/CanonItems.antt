-- The items of a path in a canonical text.
use Rattle.rule_profile.specs.PathTokens.{slash_or_end_behind, depth_behind, is_plain_slash}
use Rattle.std.proofs.Common.{◌≡◌, ℕ, suc, ◌≤◌, Bool, true, false, leb, List, [], ◌∷◌, ◌++◌, length, map, refl, sym, ap, subst, ◌∙◌, arith}
use Rattle.std.specs.Prelude.{◌&&◌, not, codes}
use Rattle.std.specs.List.{flat_map}
use Rattle.std.proofs.lemmas.Bool.{eqb-true, and_parts, leb-true, ltb-true, not-true}
use Rattle.rule_writer.specs.Canonical.{token_text}
use Rattle.rule_globs.specs.Glob.{is_slash}
use Rattle.rule_reader.specs.GrammarPaths.{WrittenItem, cell, question, star, two_stars, class, open_brace, comma, close_brace, print_item}
use Rattle.rule_reader.specs.GrammarPaths.{print_items, first_byte, next_is, IsItem, depth_behind_item, AreItems, is_plain_slash_item}
use Rattle.rule_reader.specs.GrammarPaths.{slash_or_end_behind_item, item_means, items_mean, WrittenPath, IsAbsolute, IsPath, path_means}
use Rattle.rule_profile.specs.Readable as readable
use Rattle.rule_reader.specs.TextBytes.{is_star}
use Rattle.rule_globs.specs.Tokens.{Token, byte, any_byte, bracket, stars, opening, between, closing}
use Rattle.rule_writer.proofs.CanonCells.{path_cell, path_cell_valid, path_cell_no_star, print_cell_among, byte_of_cell}
use Rattle.rule_writer.proofs.CanonClasses.{canonical_class, canonical_class_valid, canonical_class_prints}

abbrev pub canonical_item : Token → WrittenItem
canonical_item (byte b) = cell (path_cell b)
canonical_item any_byte = question
canonical_item (bracket negated ranges) = class (canonical_class negated ranges)
canonical_item (stars true strict) = two_stars 0
canonical_item (stars false strict) = star
canonical_item opening = open_brace
canonical_item between = comma
canonical_item closing = close_brace

-- ---- their bytes

item_prints : (t : Token) → print_item (canonical_item t) ≡ token_text t
item_prints (byte b) = print_cell_among (codes "*?[{},\\\"@]") b
item_prints any_byte = refl
item_prints (bracket negated ranges) = canonical_class_prints negated ranges
item_prints (stars true strict) = refl
item_prints (stars false strict) = refl
item_prints opening = refl
item_prints between = refl
item_prints closing = refl

pub items_print : (tokens : List Token) → print_items (map canonical_item tokens) ≡ flat_map token_text tokens
items_print [] = refl
items_print (t ∷ tokens) = ap (λ (x : List ℕ). x ++ print_items (map canonical_item tokens)) (item_prints t)
    ∙ ap (λ (x : List ℕ). token_text t ++ x) (items_print tokens)

-- ---- what they stand for

same_slash : (t : Token) → is_plain_slash_item (canonical_item t) ≡ is_plain_slash t
same_slash (byte b) = ap is_slash (byte_of_cell (codes "*?[{},\\\"@]") b)
same_slash any_byte = refl
same_slash (bracket negated ranges) = refl
same_slash (stars true strict) = refl
same_slash (stars false strict) = refl
same_slash opening = refl
same_slash between = refl
same_slash closing = refl

same_behind : (tokens : List Token) → slash_or_end_behind_item (map canonical_item tokens) ≡ slash_or_end_behind tokens
same_behind [] = refl
same_behind (t ∷ tokens) = same_slash t

-- a run's mark is right
run_mark : (after_slash : Bool) (depth : ℕ) (behind : List Token) (crosses strict : Bool) → readable.is_token after_slash depth behind
    (stars crosses strict) ≡ true
    → (readable.begins_with_run behind ≡ false) × ((after_slash && slash_or_end_behind behind) ≡ strict)
run_mark after_slash depth behind crosses true h =
    let p = and_parts (not (readable.begins_with_run behind) && after_slash) (slash_or_end_behind behind) h in
    let q = and_parts (not (readable.begins_with_run behind)) after_slash p.0 in
    (not-true (readable.begins_with_run behind) q.0, rw (q.1) p.1)
run_mark after_slash depth behind crosses false h =
    let p = and_parts (not (readable.begins_with_run behind)) (not (after_slash && slash_or_end_behind behind)) h in
    (not-true (readable.begins_with_run behind) p.0, not-true (after_slash && slash_or_end_behind behind) p.1)

item_stands : (after_slash : Bool) (depth : ℕ) (behind : List Token) (t : Token) → readable.is_token after_slash depth behind t ≡ true
    → item_means (after_slash && slash_or_end_behind behind) (canonical_item t) ≡ t
item_stands after_slash depth behind (byte b) h = ap byte (byte_of_cell (codes "*?[{},\\\"@]") b)
item_stands after_slash depth behind any_byte h = refl
item_stands after_slash depth behind (bracket negated ranges) h = refl
item_stands after_slash depth behind (stars true strict) h = ap (stars true) (run_mark after_slash depth behind true strict h).1
item_stands after_slash depth behind (stars false strict) h = ap (stars false) (run_mark after_slash depth behind false strict h).1
item_stands after_slash depth behind opening h = refl
item_stands after_slash depth behind between h = refl
item_stands after_slash depth behind closing h = refl

pub items_stand : (after_slash : Bool) (depth : ℕ) (tokens : List Token) → readable.are_tokens after_slash depth tokens ≡ true →
    items_mean after_slash (map canonical_item tokens) ≡ tokens
items_stand after_slash depth [] h = refl
items_stand after_slash depth (t ∷ tokens) h =
    let p = and_parts (readable.is_token after_slash depth tokens t) (readable.are_tokens (is_plain_slash t) (depth_behind t depth) tokens)
    h in
    let first : item_means (after_slash && slash_or_end_behind_item (map canonical_item tokens)) (canonical_item t) ≡ t =
    ap (λ s. item_means (after_slash && s) (canonical_item t)) (same_behind tokens) ∙ item_stands after_slash depth tokens t p.0 in
    let more : items_mean (is_plain_slash_item (canonical_item t)) (map canonical_item tokens) ≡ tokens =
    ap (λ s. items_mean s (map canonical_item tokens)) (same_slash t) ∙ items_stand (is_plain_slash t) (depth_behind t depth) tokens p.1 in
    cc

-- ---- they are valid

-- there is no star where no run begins
no_star : (tokens : List Token) → readable.begins_with_run tokens ≡ false →
    next_is is_star (first_byte (print_items (map canonical_item tokens))) ≡ false
no_star [] h = refl
no_star (byte b ∷ tokens) h =
    let p = path_cell_no_star b (print_items (map canonical_item tokens)) in
    ap (λ (x : List ℕ). next_is is_star (first_byte x)) p.2 ∙ p.3
no_star (any_byte ∷ tokens) h = refl
no_star (bracket negated ranges ∷ tokens) h = refl
no_star (stars crosses strict ∷ tokens) h = absurd cc
no_star (opening ∷ tokens) h = refl
no_star (between ∷ tokens) h = refl
no_star (closing ∷ tokens) h = refl

item_valid : (after_slash : Bool) (depth : ℕ) (tokens : List Token) (t : Token) → readable.is_token after_slash depth tokens t ≡ true
    → IsItem true depth (first_byte (print_items (map canonical_item tokens))) (canonical_item t)
item_valid after_slash depth tokens (byte b) h = path_cell_valid depth (first_byte (print_items (map canonical_item tokens))) b h
item_valid after_slash depth tokens any_byte h = tt
item_valid after_slash depth tokens (bracket negated ranges) h = canonical_class_valid negated ranges h
item_valid after_slash depth tokens (stars true strict) h = no_star tokens (run_mark after_slash depth tokens true strict h).0
item_valid after_slash depth tokens (stars false strict) h = no_star tokens (run_mark after_slash depth tokens false strict h).0
item_valid after_slash depth tokens opening h = ltb-true depth 50 h
item_valid after_slash depth tokens between h = ltb-true 0 depth h
item_valid after_slash depth tokens closing h = ltb-true 0 depth h

same_depth : (t : Token) (depth : ℕ) → depth_behind_item (canonical_item t) depth ≡ depth_behind t depth
same_depth (byte b) depth = refl
same_depth any_byte depth = refl
same_depth (bracket negated ranges) depth = refl
same_depth (stars true strict) depth = refl
same_depth (stars false strict) depth = refl
same_depth opening depth = refl
same_depth between depth = refl
same_depth closing depth = refl

pub items_valid : (after_slash : Bool) (depth : ℕ) (tokens : List Token) → readable.are_tokens after_slash depth tokens ≡ true →
    AreItems true depth (map canonical_item tokens)
items_valid after_slash depth [] h = eqb-true depth 0 h
items_valid after_slash depth (t ∷ tokens) h =
    let p = and_parts (readable.is_token after_slash depth tokens t) (readable.are_tokens (is_plain_slash t) (depth_behind t depth) tokens)
    h in (
      item_valid after_slash depth tokens t p.0,
      subst (λ d. AreItems true d (map canonical_item tokens)) (sym (same_depth t depth))
          (items_valid (is_plain_slash t) (depth_behind t depth) tokens p.1),
    )

-- ---- the path

abbrev pub canonical_path : List Token → WrittenPath
canonical_path tokens = record { quoted = true; items = map canonical_item tokens }

absolute : (tokens : List Token) → readable.begins_with_slash tokens ≡ true → IsAbsolute (map canonical_item tokens)
absolute [] h = absurd cc
absolute (byte b ∷ tokens) h = ap (λ (x : ℕ). cell (path_cell x)) (eqb-true b 47 h)
absolute (any_byte ∷ tokens) h = absurd cc
absolute (bracket negated ranges ∷ tokens) h = absurd cc
absolute (stars crosses strict ∷ tokens) h = absurd cc
absolute (opening ∷ tokens) h = absurd cc
absolute (between ∷ tokens) h = absurd cc
absolute (closing ∷ tokens) h = absurd cc

-- the parts of the test of a path
pub path_parts : (tokens : List Token) → readable.is_path tokens ≡ true → (readable.begins_with_slash tokens ≡ true)
    × (length tokens ≤ 1024) × (readable.are_tokens false 0 tokens ≡ true)
path_parts tokens h =
    let p = and_parts (readable.begins_with_slash tokens && leb (length tokens) 1024) (readable.are_tokens false 0 tokens) h in
    let q = and_parts (readable.begins_with_slash tokens) (leb (length tokens) 1024) p.0 in
    (q.0, leb-true (length tokens) 1024 q.1, p.1)

same_length : (tokens : List Token) → length (map canonical_item tokens) ≡ length tokens
same_length [] = refl
same_length (t ∷ tokens) = ap (λ (n : ℕ). suc n) (same_length tokens)

pub canonical_path_valid : (tokens : List Token) → readable.is_path tokens ≡ true → IsPath (canonical_path tokens)
canonical_path_valid tokens h =
    let p = path_parts tokens h in
    record { absolute = absolute tokens p.0; items = items_valid false 0 tokens p.2; fits = omega (arith, p.1, same_length tokens) }

pub canonical_path_means : (tokens : List Token) → readable.is_path tokens ≡ true → path_means (canonical_path tokens) ≡ tokens
canonical_path_means tokens h = items_stand false 0 tokens (path_parts tokens h).2
