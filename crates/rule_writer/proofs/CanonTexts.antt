-- The canonical text of a profile that passes the test is written in the grammar, and means that profile.
use Rattle.std.proofs.Common.{◌≡◌, ℕ, suc, ◌<◌, ◌≤◌, Bool, true, false, cond, leb, List, [], ◌∷◌, ◌++◌, length, map, filter, Some, None}
use Rattle.std.proofs.Common.{refl, sym, ap, subst, ◌∙◌, append_assoc, ◌==◌, arith}
use Rattle.std.specs.Prelude.{◌&&◌, ◌||◌, not, codes}
use Rattle.std.specs.List.{list_all, list_any, flat_map}
use Rattle.std.proofs.lemmas.Bool.{and_parts, leb-true, not-true}
use Rattle.names.specs.declared.permissions.Permission.{Permission}
use Rattle.names.specs.declared.permissions.Perms.{Perms}
use Rattle.names.specs.Permissions.{letter, has, letters, perms_of, all_permissions, conflicts}
use Rattle.rule_writer.specs.Canonical.{token_text, kind_text, rule_line, canonical}
use Rattle.rule_reader.specs.Grammar.{Qualifier, none, deny, print_qualifier, IsQualifier, kind_of, IsWord, WrittenRule, print_rule}
use Rattle.rule_reader.specs.Grammar.{BeginsNoAll, IsRule, rule_means, print_rules, AreRules, rules_mean, behind_rule, named}
use Rattle.rule_reader.specs.Grammar.{WrittenText, print_text, IsText, text_means, ReadsAs}
use Rattle.rule_reader.specs.GrammarPaths.{print_items, path_means}
use Rattle.rule_reader.specs.GrammarWords.{Piece, white, print_blank, IsBlank, Cell, plain, escaped, print_cells, WrittenName}
use Rattle.rule_reader.specs.GrammarWords.{IsWrittenName, IsFirst}
use Rattle.rule_profile.specs.Profile.{RuleValue, ProfileValue}
use Rattle.rule_profile.specs.Readable.{are_name_bytes, is_name, is_path, is_rule, is_profile}
use Rattle.names.specs.declared.kind.RuleKind.{RuleKind}
use Rattle.names.specs.declared.kind.RuleKind.TheVariants.{Allow, Deny}
use Rattle.rule_writer.proofs.CanonCells.{name_cells, name_cells_are}
use Rattle.rule_writer.proofs.CanonItems.{canonical_item, canonical_path, canonical_path_valid, canonical_path_means, items_print}

-- ---- the name

abbrev pub canonical_name : List ℕ → WrittenName
canonical_name name = record { quoted = true; cells = name_cells false name }

pub name_parts : (b : ℕ) (bytes : List ℕ) → is_name (b ∷ bytes) ≡ true → ((b == 58) ≡ false) × (length (b ∷ bytes) ≤ 255)
    × (are_name_bytes false (b ∷ bytes) ≡ true)
name_parts b bytes h =
    let p = and_parts (not (b == 58) && leb (length (b ∷ bytes)) 255) (are_name_bytes false (b ∷ bytes)) h in
    let q = and_parts (not (b == 58)) (leb (length (b ∷ bytes)) 255) p.0 in
    (not-true (b == 58) q.0, leb-true (length (b ∷ bytes)) 255 q.1, p.1)

-- a name has a cell
some_cell : (cells : List Cell) (b : ℕ) (bytes : List ℕ) → print_cells cells ≡ b ∷ bytes → 0 < length cells
some_cell [] b bytes e = absurd cc
some_cell (c ∷ cells) b bytes e = omega arith

-- no colon is first
first_cell : (cells : List Cell) (b : ℕ) (bytes : List ℕ) → print_cells cells ≡ b ∷ bytes → (b == 58) ≡ false → IsFirst true cells
first_cell [] b bytes e h = absurd cc
first_cell (plain a ∷ cells) b bytes e h =
    let same : a ≡ b = cc in
    let no : (a == 58) ≡ false = subst (λ x. (x == 58) ≡ false) (sym same) h in
    rw no refl
first_cell (escaped a ∷ cells) b bytes e h = refl

pub record CanonicalName (name : List ℕ) : Type 0 where
  pub valid : IsWrittenName (canonical_name name)
  pub first : IsFirst true (name_cells false name)
  pub prints : print_cells (name_cells false name) ≡ name

pub canonical_name_is : (name : List ℕ) → is_name name ≡ true → CanonicalName name
canonical_name_is [] h = absurd cc
canonical_name_is (b ∷ bytes) h =
    let p = name_parts b bytes h in
    let k = name_cells_are false (b ∷ bytes) p.2 in
    record {
      valid = record {
        cells = k.valid;
        some = some_cell (name_cells false (b ∷ bytes)) b bytes k.prints;
        fits =
            subst (λ (x : List ℕ). length x ≤ 255) (sym k.prints) p.1;
      };
      first = first_cell (name_cells false (b ∷ bytes)) b bytes k.prints p.0;
      prints = k.prints;
    }

-- ---- permissions

-- the letters of a set are read again as it
letters_again : (s : Perms) → perms_of (letters s) ≡ Some s
letters_again s = grind arith

-- where one passes, a letter is left
some_letter : (test : Permission → Bool) (ps : List Permission) → list_any test ps ≡ true → 0 < length (map letter (filter test ps))
some_letter test [] h = absurd cc
some_letter test (p ∷ ps) h =
    elim (test p) as (λ t. (t || list_any test ps) ≡ true → 0 < length (map letter (cond t (p ∷ filter test ps) (filter test ps)))) [
      | true ↦ λ h. omega arith
      | false ↦ λ h. some_letter test ps h
    ] h

pub perms_word : (s : Perms) → list_any (has s) all_permissions ≡ true → conflicts s ≡ false → IsWord (letters s) s
perms_word s h fine = (some_letter (has s) all_permissions h, letters_again s, fine)

-- ---- rules

-- LF, and two spaces if a rule follows
abbrev pub line_end : List RuleValue → List Piece
line_end [] = white 10 ∷ []
line_end (r ∷ rules) = white 10 ∷ white 32 ∷ white 32 ∷ []

line_end_valid : (rules : List RuleValue) → IsBlank (line_end rules)
line_end_valid [] = (refl, tt)
line_end_valid (r ∷ rules) = (refl, (refl, (refl, tt)))

abbrev pub canonical_kind : RuleKind → Qualifier
canonical_kind Allow = none
canonical_kind Deny = deny (white 32 ∷ [])

kind_valid : (kind : RuleKind) → IsQualifier (canonical_kind kind)
kind_valid Allow = tt
kind_valid Deny = (refl, tt)

-- the path is first
kind_begins : (kind : RuleKind) (letters : List ℕ) → BeginsNoAll (canonical_kind kind) true letters
kind_begins Allow letters = tt
kind_begins Deny letters = tt

kind_means : (kind : RuleKind) → kind_of (canonical_kind kind) ≡ kind
kind_means Allow = refl
kind_means Deny = refl

-- before other rules
abbrev pub canonical_rule : RuleValue → List RuleValue → WrittenRule
canonical_rule r rules = record {
  qualifier = canonical_kind r.kind;
  path_first = true;
  path = canonical_path r.items;
  gap = white 32 ∷ [];
  letters = letters r.perms;
  perms = r.perms;
  before_comma = [];
  past = line_end rules;
}

pub canonical_rule_valid : (behind : List ℕ) (r : RuleValue) (rules : List RuleValue) → is_rule r ≡ true →
    IsRule behind (canonical_rule r rules)
canonical_rule_valid behind r rules h =
    let p = and_parts (list_any (has r.perms) all_permissions && not (conflicts r.perms)) (is_path r.items) h in
    let q = and_parts (list_any (has r.perms) all_permissions) (not (conflicts r.perms)) p.0 in
    record {
      qualifier = kind_valid r.kind;
      path = canonical_path_valid r.items p.1;
      gap = (refl, tt);
      word = perms_word r.perms q.0 (not-true (conflicts r.perms) q.1);
      first_word = kind_begins r.kind (letters r.perms);
      before_comma = tt;
      past = line_end_valid rules;
      stands = tt;
    }

pub canonical_rule_means : (r : RuleValue) (rules : List RuleValue) → is_rule r ≡ true → rule_means (canonical_rule r rules) ≡ r
canonical_rule_means r rules h =
    let p = and_parts (list_any (has r.perms) all_permissions && not (conflicts r.perms)) (is_path r.items) h in
    let kind = kind_means r.kind in
    let items = canonical_path_means r.items p.1 in
    ap (λ (k : RuleKind). record { kind = k; perms = r.perms; items = path_means (canonical_path r.items) }) kind
    ∙ ap (λ i. record { kind = r.kind; perms = r.perms; items = i }) items

abbrev pub canonical_rules : List RuleValue → List WrittenRule
canonical_rules [] = []
canonical_rules (r ∷ rules) = canonical_rule r rules ∷ canonical_rules rules

canonical_rules_valid : (rules : List RuleValue) → list_all is_rule rules ≡ true → AreRules (canonical_rules rules)
canonical_rules_valid [] h = tt
canonical_rules_valid (r ∷ rules) h =
    let p = and_parts (is_rule r) (list_all is_rule rules) h in
    (canonical_rule_valid (behind_rule (canonical_rule r rules) (canonical_rules rules)) r rules p.0, canonical_rules_valid rules p.1)

canonical_rules_mean : (rules : List RuleValue) → list_all is_rule rules ≡ true → rules_mean (canonical_rules rules) ≡ rules
canonical_rules_mean [] h = refl
canonical_rules_mean (r ∷ rules) h =
    let p = and_parts (is_rule r) (list_all is_rule rules) h in
    ap (λ (x : RuleValue). x ∷ rules_mean (canonical_rules rules)) (canonical_rule_means r rules p.0) ∙ ap (λ (x : List RuleValue). r ∷ x)
    (canonical_rules_mean rules p.1)

same_length : (rules : List RuleValue) → length (canonical_rules rules) ≡ length rules
same_length [] = refl
same_length (r ∷ rules) = ap (λ (n : ℕ). suc n) (same_length rules)

-- ---- the bytes of rules

-- a line's parts, regrouped: the path's items, the letters and what follows the LF
line_parts : (items letters behind : List ℕ) → ((34 ∷ (items ++ 34 ∷ []) ++ (32 ∷ letters)) ++ 44 ∷ []) ++ 10 ∷ behind
    ≡ (34 ∷ (items ++ (34 ∷ 32 ∷ (letters ++ 44 ∷ 10 ∷ [])))) ++ behind
line_parts items letters behind = simp append_assoc

-- two spaces, a rule and LF are its line
rule_prints : (r : RuleValue) (rules : List RuleValue) (behind : List ℕ) → 32 ∷ 32 ∷ (print_rule (canonical_rule r rules) ++ 10 ∷ behind)
    ≡ rule_line r ++ behind
rule_prints r rules behind =
    let items : print_items (map canonical_item r.items) ≡ flat_map token_text r.items = items_print r.items in
    let line : ((34 ∷ (print_items (map canonical_item r.items) ++ 34 ∷ []) ++ (32 ∷ letters r.perms)) ++ 44 ∷ []) ++ 10 ∷ behind
    ≡ (34 ∷ (flat_map token_text r.items ++ (34 ∷ 32 ∷ (letters r.perms ++ 44 ∷ 10 ∷ [])))) ++ behind =
    line_parts (print_items (map canonical_item r.items)) (letters r.perms) behind
    ∙ ap (λ (x : List ℕ). (34 ∷ (x ++ (34 ∷ 32 ∷ (letters r.perms ++ 44 ∷ 10 ∷ [])))) ++ behind) items in
    elim r.kind as (λ k.
    32 ∷ 32 ∷ ((print_qualifier (canonical_kind k)
    ++ ((34 ∷ (print_items (map canonical_item r.items) ++ 34 ∷ []) ++ (32 ∷ letters r.perms)) ++ 44 ∷ [])) ++ 10 ∷ behind)
    ≡ (kind_text k ++ (34 ∷ (flat_map token_text r.items ++ (34 ∷ 32 ∷ (letters r.perms ++ 44 ∷ 10 ∷ []))))) ++ behind) [
      | Allow ↦ ap (λ (x : List ℕ). 32 ∷ 32 ∷ x) line
      | Deny ↦ ap (λ (x : List ℕ). codes "  deny " ++ x) line
    ]

-- what follows the opening brace
rules_print : (rules : List RuleValue) (behind : List ℕ) → print_blank (line_end rules) ++ (print_rules (canonical_rules rules) ++ behind)
    ≡ 10 ∷ (flat_map rule_line rules ++ behind)
rules_print [] behind = refl
rules_print (r ∷ rules) behind =
    let first : List ℕ = print_rule (canonical_rule r rules) in
    let blank : List ℕ = print_blank (line_end rules) in
    let others : List ℕ = print_rules (canonical_rules rules) in
    let lines : List ℕ = flat_map rule_line rules in
    let regrouped : (first ++ (blank ++ others)) ++ behind ≡ first ++ (blank ++ (others ++ behind)) = simp append_assoc in
    ap (λ (x : List ℕ). 10 ∷ 32 ∷ 32 ∷ x) (regrouped ∙ ap (λ (x : List ℕ). first ++ x) (rules_print rules behind))
    ∙ ap (λ (x : List ℕ). 10 ∷ x) (rule_prints r rules (lines ++ behind))
    ∙ ap (λ (x : List ℕ). 10 ∷ x) (sym (append_assoc (rule_line r) lines behind))

-- ---- texts

abbrev pub canonical_text : ProfileValue → WrittenText
canonical_text p = record {
  start = [];
  header = named (white 32 ∷ []) (canonical_name p.name) (white 32 ∷ []) None;
  inside = line_end p.rules;
  rules = canonical_rules p.rules;
  past = white 10 ∷ [];
  last = None;
}

pub profile_parts : (p : ProfileValue) → is_profile p ≡ true → (is_name p.name ≡ true) × (length p.rules ≤ 1024)
    × (list_all is_rule p.rules ≡ true)
profile_parts p h =
    let a = and_parts (is_name p.name && leb (length p.rules) 1024) (list_all is_rule p.rules) h in
    let b = and_parts (is_name p.name) (leb (length p.rules) 1024) a.0 in
    (b.0, leb-true (length p.rules) 1024 b.1, a.1)

pub canonical_text_valid : (p : ProfileValue) → is_profile p ≡ true → IsText (canonical_text p)
canonical_text_valid p h =
    let a = profile_parts p h in
    let name = canonical_name_is p.name a.0 in
    record {
      start = tt;
      header = ((refl, tt), name.valid, name.first, ((refl, tt), tt), tt);
      inside = line_end_valid p.rules;
      rules = canonical_rules_valid p.rules a.2;
      rules_fit = omega (arith, a.1, same_length p.rules);
      past = (refl, tt);
      last = tt;
    }

pub canonical_text_means : (p : ProfileValue) → is_profile p ≡ true → text_means (canonical_text p) ≡ p
canonical_text_means p h =
    let a = profile_parts p h in
    ap (λ (x : List ℕ). record { name = x; rules = rules_mean (canonical_rules p.rules) }) (canonical_name_is p.name a.0).prints
    ∙ ap (λ (x : List RuleValue). record { name = p.name; rules = x }) (canonical_rules_mean p.rules a.2)

-- a header's parts, regrouped
header_parts : (name behind : List ℕ) → ((codes "profile" ++ (32 ∷ ((34 ∷ (name ++ 34 ∷ [])) ++ 32 ∷ []))) ++ behind) ≡ codes "profile \""
    ++ (name ++ (34 ∷ 32 ∷ behind))
header_parts name behind = simp append_assoc

pub canonical_text_prints : (p : ProfileValue) → is_profile p ≡ true → print_text (canonical_text p) ≡ canonical p
unfolding print_text canonical
canonical_text_prints p h =
    let a = profile_parts p h in
    header_parts (print_cells (name_cells false p.name))
    (123 ∷ (print_blank (line_end p.rules) ++ (print_rules (canonical_rules p.rules) ++ codes "}\n")))
    ∙ ap (λ (x : List ℕ). codes "profile \"" ++ (print_cells (name_cells false p.name) ++ (34 ∷ 32 ∷ 123 ∷ x)))
    (rules_print p.rules (codes "}\n"))
    ∙ ap (λ (x : List ℕ). codes "profile \"" ++ (x ++ (34 ∷ 32 ∷ 123 ∷ 10 ∷ (flat_map rule_line p.rules ++ codes "}\n"))))
    (canonical_name_is p.name a.0).prints

pub canonical_read : (p : ProfileValue) → is_profile p ≡ true → ReadsAs (canonical p) p
canonical_read p h = record {
  written = canonical_text p;
  valid = canonical_text_valid p h;
  bytes = sym (canonical_text_prints p h);
  means = canonical_text_means p h;
}
