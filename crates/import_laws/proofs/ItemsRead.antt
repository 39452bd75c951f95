-- The canonical text of a profile has the items that it is written with.
use Rattle.std.proofs.Common.{◌≡◌, ℕ, true, false, List, [], ◌∷◌, ◌++◌, Result, Ok, Option, None, refl, sym, ap, ◌∙◌, append_assoc}
use Rattle.std.specs.Prelude.{codes}
use Rattle.std.specs.List.{flat_map, list_all}
use Rattle.std.proofs.lemmas.Bool.{and_parts}
use Rattle.rule_globs.specs.Each.{Each}
use Rattle.names.specs.Permissions.{letters}
use Rattle.names.specs.declared.kind.RuleKind.{RuleKind}
use Rattle.names.specs.declared.kind.RuleKind.TheVariants.{Allow, Deny}
use Rattle.rule_profile.specs.Profile.{RuleValue, ProfileValue}
use Rattle.rule_profile.specs.Readable.{is_rule, is_profile}
use Rattle.rule_reader.specs.TextBytes.{begins, opens_blank}
use Rattle.rule_writer.specs.Canonical.{qualifier_text, kind_text, rule_line, canonical}
use Rattle.rule_writer.proofs.CanonTexts.{profile_parts}
use Rattle.apparmor_words.specs.Steps.{Stop}
use Rattle.apparmor_text.specs.declared.part.PartKind.TheVariants as parts
use Rattle.apparmor_text.specs.declared.part.ItemKind.{ItemKind}
use Rattle.apparmor_text.specs.declared.part.ItemKind.TheVariants as items
use Rattle.apparmor_text.specs.Parts.{ItemValue}
use Rattle.apparmor_text.specs.Readings.{Reading}
use Rattle.apparmor_text.specs.Headers.{profile_head}
use Rattle.apparmor_text.specs.Rules as flat_rules
use Rattle.apparmor_text.specs.Rules.{of_kind}
use Rattle.apparmor_text.specs.Texts.{inner_item, outer_item, item_at, at_start, behind_item, ReadsFrom, ReadsItems, ends, goes_on}
use Rattle.import_laws.specs.CanonicalItems.{part_of, path_text, blank_item, head_item, rule_item, close_item, inner_items}
use Rattle.import_laws.specs.CanonicalItems.{canonical_items, ends_plainly, WordsEndPlainly}
use Rattle.import_laws.proofs.PartsRead.{reading, reads_blank}
use Rattle.import_laws.proofs.HeadRead.{reads_head}
use Rattle.import_laws.proofs.RulesRead.{body_text, reads_rule}

-- ---- one item and those after it

-- there are some bytes
abbrev SomeBytes : List ℕ → Type 0
SomeBytes bytes = (b : ℕ) × (more : List ℕ) × (bytes ≡ b ∷ more)

one_more : (position : _) (bytes : List ℕ) (kind : ItemKind) (s : Reading) (others : List ItemValue) (end : Option Stop) → SomeBytes bytes
    → item_at position (reading [] bytes) ≡ Ok (kind, s) → ReadsFrom (behind_item kind position) s.rest others end
    → ReadsFrom position bytes (record { kind = kind; parts = s.parts } ∷ others) end
one_more position bytes kind s others end some e r =
    let first : item_at position (reading [] (some.0 ∷ some.1)) ≡ Ok (kind, s) = rw (sym some.2) e in
    rw (some.2) (goes_on position some.0 some.1 kind s others end first r)

-- ---- within the profile

-- the item that begins these bytes
abbrev item_inside : List ℕ → Result (ItemKind × Reading) Stop
item_inside bytes = item_at (behind_item items.Profile at_start) (reading [] bytes)

-- these bytes have these items, and the text ends with them
abbrev ReadsInside : List ℕ → List ItemValue → Type 0
ReadsInside bytes read = ReadsFrom (behind_item items.Profile at_start) bytes read None

-- a rule, and what comes after its comma
abbrev rule_bytes : RuleValue → List ℕ → List ℕ
rule_bytes r rest = qualifier_text r.kind ++ body_text r rest

some_rule : (kind : RuleKind) (r : RuleValue) (rest : List ℕ) → SomeBytes (qualifier_text kind ++ body_text r rest)
some_rule Allow r rest = (_, _, refl)
some_rule Deny r rest = (_, _, refl)

no_blank : (kind : RuleKind) (r : RuleValue) (rest : List ℕ) → begins opens_blank (qualifier_text kind ++ body_text r rest) ≡ false
no_blank Allow r rest = refl
no_blank Deny r rest = refl

blank_before_rule : (r : RuleValue) (rest : List ℕ)
    → item_inside (10 ∷ 32 ∷ 32 ∷ rule_bytes r rest)
    ≡ Ok (items.Blank, reading (part_of parts.Blank (codes "\n  ") ∷ []) (rule_bytes r rest))
unfolding item_at
blank_before_rule r rest = rw (reads_blank [] 10 (32 ∷ 32 ∷ []) (rule_bytes r rest) refl (no_blank r.kind r rest)) refl

-- a qualifier or a quote begins neither the profile's end nor a hat or a child
rule_of : (kind : RuleKind) (r : RuleValue) (rest : List ℕ) → item_inside (qualifier_text kind ++ body_text r rest) ≡ flat_rules.rule_item
    (reading [] (qualifier_text kind ++ body_text r rest))
unfolding item_at inner_item
rule_of Allow r rest = refl
rule_of Deny r rest = refl

rule_there : (r : RuleValue) (rest : List ℕ) → is_rule r ≡ true → ends_plainly (path_text r.items) ≡ true
    → item_inside (rule_bytes r rest) ≡ Ok (items.Rule, reading (rule_item r).parts rest)
rule_there r rest h plain = rule_of r.kind r rest ∙ reads_rule r rest h plain

-- what comes after the opening brace
abbrev inner_text : List RuleValue → List ℕ
inner_text rules = 10 ∷ (flat_map rule_line rules ++ codes "}\n")

line_parts : (r : RuleValue) (behind : List ℕ) → rule_line r ++ behind ≡ 32 ∷ 32 ∷ rule_bytes r (10 ∷ behind)
line_parts r behind = at r.kind
  where
    body : (path perms : List ℕ) → (34 ∷ (path ++ (34 ∷ 32 ∷ (perms ++ 44 ∷ 10 ∷ [])))) ++ behind
        ≡ 34 ∷ (path ++ 34 ∷ 32 ∷ (perms ++ 44 ∷ 10 ∷ behind))
    body path perms = simp append_assoc

    at : (kind : RuleKind) → (kind_text kind ++ (34 ∷ (path_text r.items ++ (34 ∷ 32 ∷ (letters r.perms ++ 44 ∷ 10 ∷ []))))) ++ behind
        ≡ 32 ∷ 32 ∷ (qualifier_text kind ++ body_text r (10 ∷ behind))
    at Allow = ap (λ (x : List ℕ). 32 ∷ 32 ∷ x) (body (path_text r.items) (letters r.perms))
    at Deny = ap (λ (x : List ℕ). codes "  deny " ++ x) (body (path_text r.items) (letters r.perms))

-- The blank before a rule begins with the LF after the rule before it, or after the brace.
first_line : (r : RuleValue) (rules : List RuleValue) → inner_text (r ∷ rules) ≡ 10 ∷ 32 ∷ 32 ∷ rule_bytes r (inner_text rules)
first_line r rules =
    ap (λ (x : List ℕ). 10 ∷ x) (append_assoc (rule_line r) (flat_map rule_line rules) (codes "}\n")
    ∙ line_parts r (flat_map rule_line rules ++ codes "}\n"))

-- the closing brace, on a line of its own
last_line : ReadsInside (codes "\n}\n") (inner_items [])
unfolding item_at inner_item
last_line =
    one_more (behind_item items.Profile at_start) (codes "\n}\n") items.Blank (reading (blank_item (codes "\n")).parts (codes "}\n"))
    (close_item ∷ blank_item (codes "\n") ∷ []) None (_, _, refl) refl (one_more (behind_item items.Profile at_start) (codes "}\n")
    items.Close (reading close_item.parts (codes "\n")) (blank_item (codes "\n") ∷ []) None (_, _, refl) refl
    (one_more (behind_item items.Close (behind_item items.Profile at_start)) (codes "\n") items.Blank
    (reading (blank_item (codes "\n")).parts []) [] None (_, _, refl) refl
    (ends (behind_item items.Close (behind_item items.Profile at_start)) refl)))

reads_inner : (rules : List RuleValue) → list_all is_rule rules ≡ true → Each (λ r. ends_plainly (path_text r.items) ≡ true) rules
    → ReadsInside (inner_text rules) (inner_items rules)
reads_inner [] h plain = last_line
reads_inner (r ∷ rules) h plain =
    let p = and_parts (is_rule r) (list_all is_rule rules) h in
    let rest = inner_text rules in
    let behind = reads_inner rules p.1 plain.1 in
    let rule = one_more (behind_item items.Profile at_start) (rule_bytes r rest) items.Rule (reading (rule_item r).parts rest)
    (inner_items rules) None (some_rule r.kind r rest) (rule_there r rest p.0 plain.0) behind in
    rw (first_line r rules)
    (one_more (behind_item items.Profile at_start) (10 ∷ 32 ∷ 32 ∷ rule_bytes r rest) items.Blank
    (reading (blank_item (codes "\n  ")).parts (rule_bytes r rest)) (rule_item r ∷ inner_items rules) None
    (10, 32 ∷ 32 ∷ rule_bytes r rest, refl) (blank_before_rule r rest) rule)

-- ---- the whole text

head_there : (name rest : List ℕ) → item_at at_start (reading [] (codes "profile \"" ++ (name ++ 34 ∷ 32 ∷ 123 ∷ rest)))
    ≡ of_kind items.Profile (profile_head (reading [] (codes "profile \"" ++ (name ++ 34 ∷ 32 ∷ 123 ∷ rest))))
unfolding item_at outer_item
head_there name rest = refl

pub reads_canonical : (p : ProfileValue) → is_profile p ≡ true → WordsEndPlainly p → ReadsItems (canonical p) (canonical_items p) None
unfolding canonical
reads_canonical p h plain =
    let q = profile_parts p h in
    let rest = inner_text p.rules in
    let head = reads_head p.name rest q.0 plain.name in
    one_more at_start (codes "profile \"" ++ (p.name ++ 34 ∷ 32 ∷ 123 ∷ rest)) items.Profile (reading (head_item p.name).parts rest)
    (inner_items p.rules) None (_, _, refl) (head_there p.name rest ∙ ap (λ (r : Result Reading Stop). of_kind items.Profile r) head)
    (reads_inner p.rules q.2 plain.paths)
