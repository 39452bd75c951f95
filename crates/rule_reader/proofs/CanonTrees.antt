-- What a tree of the grammar means passes the test of the profiles that can be read.
use Rattle.rule_profile.specs.PathTokens.{slash_or_end_behind, depth_behind, is_plain_slash}
use Rattle.std.proofs.Common.{IsTrue, ◌≡◌, ℕ, suc, ◌≤◌, Bool, true, false, cond, ltb, leb, List, [], ◌∷◌, length, Option, Some, None, refl}
use Rattle.std.proofs.Common.{sym, ap, subst, ◌∙◌, ◌==◌, arith, inl, inr}
use Rattle.std.specs.Prelude.{◌&&◌, ◌||◌, not, option_map}
use Rattle.std.specs.List.{list_all, list_any}
use Rattle.std.proofs.lemmas.Bool.{and_parts, and_from, or_parts, eqb-true, ne_eqb, not-true, not_from_false, lt-ltb, le-leb, ltb-false}
use Rattle.std.proofs.lemmas.Bool.{or_left, eq-eqb}
use Rattle.names.specs.declared.permissions.Perms.{Perms}
use Rattle.names.specs.Permissions.{letter, has, set_of, is_letter, all_permissions, conflicts}
use Rattle.rule_globs.specs.declared.items.ByteRange.{ByteRange}
use Rattle.rule_reader.specs.Grammar.{IsWord, WrittenRule, IsRule, rule_means, AreRules, rules_mean, behind_rule, WrittenHeader, named}
use Rattle.rule_reader.specs.Grammar.{by_path, IsHeader, header_means, WrittenText, IsText, text_means, ReadsAs}
use Rattle.rule_reader.specs.GrammarPaths.{members, IsClassCell, IsBegun, WrittenItem, cell, question, star, two_stars, class, open_brace}
use Rattle.rule_reader.specs.GrammarPaths.{comma, close_brace, print_items, first_byte, next_is, IsItem, depth_behind_item, AreItems}
use Rattle.rule_reader.specs.GrammarPaths.{is_plain_slash_item, slash_or_end_behind_item, item_means, items_mean, WrittenPath, IsAbsolute}
use Rattle.rule_reader.specs.GrammarPaths.{IsPath, path_means}
use Rattle.rule_globs.specs.Glob.{range, single}
use Rattle.rule_reader.specs.GrammarWords.{Cell, plain, escaped, print_cells, byte_of, is_plain, may_stand, IsNameCell, IsFirst}
use Rattle.rule_reader.specs.GrammarWords.{BeginsWithSlash}
use Rattle.rule_globs.specs.Each.{Each}
use Rattle.rule_profile.specs.Profile.{ProfileValue}
use Rattle.rule_profile.specs.Readable as readable
use Rattle.rule_profile.specs.Readable.{can_stand, are_name_bytes, is_name, is_range, is_path, is_rule, is_profile}
use Rattle.rule_globs.specs.Tokens.{Token, stars}
use Rattle.rule_reader.specs.TextBytes.{is_white, is_star, is_escapable}
use Rattle.names.specs.laws.PermissionSets.{has-set_of, found, one_found}
use Rattle.rule_reader.proofs.ReadSteps.{chosen, some_is, none_some}

-- ---- bytes

-- a byte that is allowed is neither byte 0 nor LF
may_can : (quoted : Bool) (b : ℕ) → may_stand quoted b ≡ true → can_stand b ≡ true
may_can quoted b h = not_from_false (b == 0 || b == 10) (or_parts (b == 0 || b == 10) (not quoted && is_white b) (not-true _ h)).0

escapable_can : (b : ℕ) → is_escapable b ≡ true → can_stand b ≡ true
escapable_can b h = not_from_false (b == 0 || b == 10) (or_parts (b == 0 || b == 10) _ (not-true _ h)).0

-- ---- names

name_bytes : (quoted : Bool) (cells : List Cell) → Each (IsNameCell quoted) cells → are_name_bytes false (print_cells cells) ≡ true
name_bytes quoted [] h = refl
name_bytes quoted (plain b ∷ cells) h =
    let p = and_parts (may_stand quoted b) (not (b == 34 || b == 92)) h.0 in
    let q = or_parts (b == 34) (b == 92) (not-true _ p.1) in
    and_from (can_stand b && not (b == 34)) (are_name_bytes (b == 92) (print_cells cells))
    (and_from (can_stand b) (not (b == 34)) (may_can quoted b p.0) (not_from_false (b == 34) q.0))
    (subst (λ t. are_name_bytes t (print_cells cells) ≡ true) (sym q.1) (name_bytes quoted cells h.1))
name_bytes quoted (escaped b ∷ cells) h =
    let c : can_stand b ≡ true = not_from_false (b == 0 || b == 10) h.0 in
    rw (c) (name_bytes quoted cells h.1)

-- what begins with a byte that is no colon
abbrev NoColon : List ℕ → Type 0
NoColon [] = ⊥
NoColon (b ∷ bytes) = (b == 58) ≡ false

first_no_colon : (quoted : Bool) (cells : List Cell) → IsFirst quoted cells → NoColon (print_cells cells)
first_no_colon quoted [] h = h
first_no_colon quoted (plain b ∷ cells) h = (or_parts (b == 58) _ (not-true _ h)).0
first_no_colon quoted (escaped b ∷ cells) h = refl

slash_no_colon : (cells : List Cell) → BeginsWithSlash cells → NoColon (print_cells cells)
slash_no_colon [] h = h
slash_no_colon (plain b ∷ cells) h = subst (λ x. (x == 58) ≡ false) (sym (eqb-true b 47 h)) refl
slash_no_colon (escaped b ∷ cells) h = absurd cc

name_from : (name : List ℕ) → NoColon name → length name ≤ 255 → are_name_bytes false name ≡ true → is_name name ≡ true
name_from [] c l h = absurd c
name_from (b ∷ bytes) c l h =
    and_from (not (b == 58) && leb (length (b ∷ bytes)) 255) (are_name_bytes false (b ∷ bytes))
    (and_from (not (b == 58)) (leb (length (b ∷ bytes)) 255) (not_from_false (b == 58) c) (le-leb (length (b ∷ bytes)) 255 l)) h

pub header_is_name : (h : WrittenHeader) → IsHeader h → is_name (header_means h) ≡ true
header_is_name (named gap name behind attachment) h = name_from (print_cells name.cells) (first_no_colon name.quoted name.cells h.2)
    h.1.fits (name_bytes name.quoted name.cells h.1.cells)
header_is_name (by_path name behind) h = name_from (print_cells name.cells) (slash_no_colon name.cells h.1) h.0.fits
    (name_bytes name.quoted name.cells h.0.cells)

-- ---- classes

class_byte : (quoted : Bool) (c : Cell) → IsClassCell quoted c → can_stand (byte_of c) ≡ true
class_byte quoted (plain b) h = may_can quoted b (and_parts (may_stand quoted b) _ h).0
class_byte quoted (escaped b) h = escapable_can b h

one_range : (first last : ℕ) → can_stand first ≡ true → can_stand last ≡ true → first ≤ last → is_range (range first last) ≡ true
one_range first last h g l = and_from (can_stand first && can_stand last) (leb first last)
    (and_from (can_stand first) (can_stand last) h g) (le-leb first last l)

-- each is proper, and there is one
abbrev Proper : List ByteRange → Type 0
Proper ranges = (list_all is_range ranges ≡ true) × ((length ranges == 0) ≡ false)

-- each is proper, and there is one if there is a cell
abbrev ProperOf : List Cell → List ByteRange → Type 0
ProperOf [] ranges = list_all is_range ranges ≡ true
ProperOf (c ∷ cells) ranges = Proper ranges

all_proper : (cells : List Cell) (ranges : List ByteRange) → ProperOf cells ranges → list_all is_range ranges ≡ true
all_proper [] ranges h = h
all_proper (c ∷ cells) ranges h = h.0

one_single : (quoted : Bool) (c : Cell) → IsClassCell quoted c → is_range (single (byte_of c)) ≡ true
one_single quoted c h = one_range (byte_of c) (byte_of c) (class_byte quoted c h) (class_byte quoted c h) (omega arith)

-- a range in front of others, if there are others
with_front : (r : ByteRange) (cells : List Cell) (o : Option (List ByteRange)) (ranges : List ByteRange) → is_range r ≡ true →
    ((others : List ByteRange) → o ≡ Some others → ProperOf cells others) → option_map (λ others. r ∷ others) o ≡ Some ranges
    → Proper ranges
with_front r cells None ranges h more e = absurd (none_some ranges e)
with_front r cells (Some others) ranges h more e =
    subst Proper (some_is (r ∷ others) ranges e) (
      and_from (is_range r) (list_all is_range others) h
          (all_proper cells others (more others refl)),
      ne_eqb (length (r ∷ others)) 0 (λ e. omega arith),
    )

ranges_proper : (quoted apart : Bool) (cells : List Cell) (ranges : List ByteRange) → Each (IsClassCell quoted) cells → members apart cells
    ≡ Some ranges → ProperOf cells ranges
unfolding members
ranges_proper quoted apart [] ranges h e = subst (ProperOf []) (some_is [] ranges e) refl
ranges_proper quoted apart (c ∷ []) ranges h e = subst Proper (some_is (single (byte_of c) ∷ []) ranges e)
    (rw (one_single quoted c h.0) refl, refl)
ranges_proper quoted apart (c ∷ d ∷ []) ranges h e = subst Proper (some_is (single (byte_of c) ∷ single (byte_of d) ∷ []) ranges e)
    (rw (one_single quoted c h.0, one_single quoted d h.1.0) refl, refl)
ranges_proper quoted apart (c ∷ d ∷ f ∷ cells) ranges h e =
    let first : Option (List ByteRange) = option_map (λ others. single (byte_of c) ∷ others) (members false (d ∷ f ∷ cells)) in
    let last : Option (List ByteRange) = option_map (λ others. range (byte_of c) (byte_of f) ∷ others) (members true cells) in
    let third : Option (List ByteRange) = cond (ltb (byte_of f) (byte_of c)) None last in
    let second : Option (List ByteRange) = cond (is_plain 45 f && (length cells == 0))
    (Some (single (byte_of c) ∷ single (byte_of d) ∷ single (byte_of f) ∷ [])) third in
    elim (chosen ((apart && is_plain 45 c) || not (is_plain 45 d)) first second (Some ranges) e) [
      | inl g ↦ with_front (single (byte_of c)) (d ∷ f ∷ cells) (members false (d ∷ f ∷ cells)) ranges (one_single quoted c h.0)
          (λ others m. ranges_proper quoted false (d ∷ f ∷ cells) others h.1 m) g.1
      | inr g ↦ elim (chosen (is_plain 45 f && (length cells == 0))
          (Some (single (byte_of c) ∷ single (byte_of d) ∷ single (byte_of f) ∷ [])) third (Some ranges) g.1) [
            | inl k ↦ subst Proper (some_is (single (byte_of c) ∷ single (byte_of d) ∷ single (byte_of f) ∷ []) ranges k.1)
                (rw (one_single quoted c h.0, one_single quoted d h.1.0, one_single quoted f h.1.1.0) refl, refl)
            | inr k ↦ elim (chosen (ltb (byte_of f) (byte_of c)) None last (Some ranges) k.1) [
              | inl m ↦ absurd (none_some ranges m.1)
              | inr m ↦
                  let here : is_range (range (byte_of c) (byte_of f)) ≡ true = one_range (byte_of c) (byte_of f) (class_byte quoted c h.0)
                  (class_byte quoted f h.1.1.0) (ltb-false (byte_of f) (byte_of c) m.0) in
                  with_front (range (byte_of c) (byte_of f)) cells (members true cells) ranges here
                  (λ others m. ranges_proper quoted true cells others h.1.1.1 m) m.1
            ]
          ]
    ]

class_proper : (quoted negated : Bool) (cells : List Cell) (ranges : List ByteRange) → Each (IsClassCell quoted) cells →
    IsBegun negated cells → members true cells ≡ Some ranges → (not (length ranges == 0) && list_all is_range ranges) ≡ true
class_proper quoted negated [] ranges h b e = absurd b
class_proper quoted negated (c ∷ cells) ranges h b e =
    let p = ranges_proper quoted true (c ∷ cells) ranges h e in
    and_from (not (length ranges == 0)) (list_all is_range ranges) (not_from_false (length ranges == 0) p.1) p.0

-- ---- items

same_slash : (strict : Bool) (i : WrittenItem) → is_plain_slash (item_means strict i) ≡ is_plain_slash_item i
same_slash strict (cell c) = refl
same_slash strict question = refl
same_slash strict star = refl
same_slash strict (two_stars more) = refl
same_slash strict (class c) = refl
same_slash strict open_brace = refl
same_slash strict comma = refl
same_slash strict close_brace = refl

same_behind : (after_slash : Bool) (items : List WrittenItem) → slash_or_end_behind (items_mean after_slash items)
    ≡ slash_or_end_behind_item items
same_behind after_slash [] = refl
same_behind after_slash (i ∷ items) = same_slash (after_slash && slash_or_end_behind_item items) i

same_depth : (strict : Bool) (i : WrittenItem) (depth : ℕ) → depth_behind (item_means strict i) depth ≡ depth_behind_item i depth
same_depth strict (cell c) depth = refl
same_depth strict question depth = refl
same_depth strict star depth = refl
same_depth strict (two_stars more) depth = refl
same_depth strict (class c) depth = refl
same_depth strict open_brace depth = refl
same_depth strict comma depth = refl
same_depth strict close_brace depth = refl

-- no run begins where there is no star
no_run : (after_slash : Bool) (items : List WrittenItem) → next_is is_star (first_byte (print_items items)) ≡ false →
    readable.begins_with_run (items_mean after_slash items) ≡ false
no_run after_slash [] h = refl
no_run after_slash (cell c ∷ items) h = refl
no_run after_slash (question ∷ items) h = refl
no_run after_slash (star ∷ items) h = absurd cc
no_run after_slash (two_stars more ∷ items) h = absurd cc
no_run after_slash (class c ∷ items) h = refl
no_run after_slash (open_brace ∷ items) h = refl
no_run after_slash (comma ∷ items) h = refl
no_run after_slash (close_brace ∷ items) h = refl

-- a run with its mark
run_is_token : (after_slash : Bool) (depth : ℕ) (behind : List Token) (crosses : Bool) → readable.begins_with_run behind ≡ false
    → readable.is_token after_slash depth behind (stars crosses (after_slash && slash_or_end_behind behind)) ≡ true
run_is_token after_slash depth behind crosses h =
    let P : (a s : Bool) → slash_or_end_behind behind ≡ s → readable.is_token a depth behind (stars crosses (a && s)) ≡ true =
    λ a s. elim a as (λ a. slash_or_end_behind behind ≡ s → readable.is_token a depth behind (stars crosses (a && s)) ≡ true) [
      | true ↦ elim s as (λ s. slash_or_end_behind behind ≡ s → readable.is_token true depth behind (stars crosses s) ≡ true) [
        | true ↦ λ e. rw (h, e) refl
        | false ↦ λ e. rw (h, e) refl
      ]
      | false ↦ λ e. rw h refl
    ] in
    P after_slash (slash_or_end_behind behind) refl

item_is_token : (quoted after_slash : Bool) (depth : ℕ) (items : List WrittenItem) (i : WrittenItem) →
    IsItem quoted depth (first_byte (print_items items)) i
    → readable.is_token after_slash depth (items_mean (is_plain_slash_item i) items)
    (item_means (after_slash && slash_or_end_behind_item items) i) ≡ true
item_is_token quoted after_slash depth items (cell (plain b)) h =
    may_can quoted b (and_parts (may_stand quoted b) _ (and_parts _ _ (and_parts _ _ h).0).0).0
item_is_token quoted after_slash depth items (cell (escaped b)) h = escapable_can b h
item_is_token quoted after_slash depth items question h = refl
item_is_token quoted after_slash depth items star h =
    subst (λ s. readable.is_token after_slash depth (items_mean false items) (stars false (after_slash && s)) ≡ true)
    (same_behind false items) (run_is_token after_slash depth (items_mean false items) false (no_run false items h))
item_is_token quoted after_slash depth items (two_stars more) h =
    subst (λ s. readable.is_token after_slash depth (items_mean false items) (stars true (after_slash && s)) ≡ true)
    (same_behind false items) (run_is_token after_slash depth (items_mean false items) true (no_run false items h))
item_is_token quoted after_slash depth items (class c) h = class_proper quoted c.negated c.cells c.ranges h.cells h.begun h.ranges
item_is_token quoted after_slash depth items open_brace h = lt-ltb depth 50 h
item_is_token quoted after_slash depth items comma h = lt-ltb 0 depth h
item_is_token quoted after_slash depth items close_brace h = lt-ltb 0 depth h

pub items_are_tokens : (quoted after_slash : Bool) (depth : ℕ) (items : List WrittenItem) → AreItems quoted depth items →
    readable.are_tokens after_slash depth (items_mean after_slash items) ≡ true
items_are_tokens quoted after_slash depth [] h = eq-eqb depth 0 h
items_are_tokens quoted after_slash depth (i ∷ items) h =
    let strict : Bool = after_slash && slash_or_end_behind_item items in
    let more : readable.are_tokens (is_plain_slash_item i) (depth_behind_item i depth) (items_mean (is_plain_slash_item i) items) ≡ true =
    items_are_tokens quoted (is_plain_slash_item i) (depth_behind_item i depth) items h.1 in
    let there : readable.are_tokens (is_plain_slash (item_means strict i)) (depth_behind (item_means strict i) depth)
    (items_mean (is_plain_slash_item i) items) ≡ true =
    rw (same_slash strict i, same_depth strict i depth) more in
    and_from (readable.is_token after_slash depth (items_mean (is_plain_slash_item i) items) (item_means strict i))
    (readable.are_tokens (is_plain_slash (item_means strict i)) (depth_behind (item_means strict i) depth)
    (items_mean (is_plain_slash_item i) items))
    (item_is_token quoted after_slash depth items i h.0) there

same_length : (after_slash : Bool) (items : List WrittenItem) → length (items_mean after_slash items) ≡ length items
same_length after_slash [] = refl
same_length after_slash (i ∷ items) = ap (λ (n : ℕ). suc n) (same_length (is_plain_slash_item i) items)

begins : (items : List WrittenItem) → IsAbsolute items → readable.begins_with_slash (items_mean false items) ≡ true
begins [] h = absurd h
begins (i ∷ items) h = ap (λ (i : WrittenItem). is_plain_slash (item_means false i)) h

pub path_is_path : (p : WrittenPath) → IsPath p → is_path (path_means p) ≡ true
path_is_path p h =
    and_from (readable.begins_with_slash (path_means p) && leb (length (path_means p)) 1024) (readable.are_tokens false 0 (path_means p))
    (and_from (readable.begins_with_slash (path_means p)) (leb (length (path_means p)) 1024) (begins p.items h.absolute)
    (le-leb (length (path_means p)) 1024 (omega (arith, same_length false p.items, h.fits))))
    (items_are_tokens p.quoted false 0 p.items h.items)

-- ---- rules

-- a word's set has a permission
word_some : (letters : List ℕ) (perms : Perms) → IsWord letters perms → list_any (has perms) all_permissions ≡ true
word_some [] perms h = absurd (omega (arith, h.0))
word_some (b ∷ letters) perms h =
    let set : Perms = set_of (λ p. list_any (λ b. letter p == b) (b ∷ letters)) in
    elim (chosen (list_all is_letter (b ∷ letters)) (Some set) None (Some perms) h.1) [
      | inl g ↦
          let one = one_found (λ p. letter p == b) (and_parts (is_letter b) (list_all is_letter letters) g.0).0 in
          let there : has set one.0 ≡ true = has-set_of (λ p. list_any (λ b. letter p == b) (b ∷ letters)) one.0
          ∙ or_left (letter one.0 == b) (list_any (λ b. letter one.0 == b) letters) one.1 in
          subst (λ s. list_any (has s) all_permissions ≡ true) (some_is set perms g.1) (found (has set) one.0 there)
      | inr g ↦ absurd (none_some perms g.1)
    ]

rule_is_rule : (behind : List ℕ) (r : WrittenRule) → IsRule behind r → is_rule (rule_means r) ≡ true
rule_is_rule behind r h = and_from (list_any (has r.perms) all_permissions && not (conflicts r.perms)) (is_path (path_means r.path))
    (and_from (list_any (has r.perms) all_permissions) (not (conflicts r.perms)) (word_some r.letters r.perms h.word)
    (not_from_false (conflicts r.perms) h.word.2)) (path_is_path r.path h.path)

rules_are_rules : (rules : List WrittenRule) → AreRules rules → list_all is_rule (rules_mean rules) ≡ true
rules_are_rules [] h = refl
rules_are_rules (r ∷ rules) h = and_from (is_rule (rule_means r)) (list_all is_rule (rules_mean rules))
    (rule_is_rule (behind_rule r rules) r h.0) (rules_are_rules rules h.1)

same_rules : (rules : List WrittenRule) → length (rules_mean rules) ≡ length rules
same_rules [] = refl
same_rules (r ∷ rules) = ap (λ (n : ℕ). suc n) (same_rules rules)

-- ---- texts

pub tree_is_profile : (t : WrittenText) → IsText t → is_profile (text_means t) ≡ true
tree_is_profile t h =
    and_from (is_name (header_means t.header) && leb (length (rules_mean t.rules)) 1024) (list_all is_rule (rules_mean t.rules))
    (and_from (is_name (header_means t.header)) (leb (length (rules_mean t.rules)) 1024) (header_is_name t.header h.header)
    (le-leb (length (rules_mean t.rules)) 1024 (omega (arith, same_rules t.rules, h.rules_fit))))
    (rules_are_rules t.rules h.rules)

-- what a text is read as passes the test
pub read_is_profile : (text : List ℕ) (p : ProfileValue) → ReadsAs text p → IsTrue (is_profile p)
read_is_profile text p h = subst (λ (x : ProfileValue). IsTrue (is_profile x)) h.means (tree_is_profile h.written h.valid)
