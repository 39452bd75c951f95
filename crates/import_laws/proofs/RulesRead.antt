-- A rule as it is written in a canonical text, and what it is read as.
use Rattle.std.proofs.Common.{◌≡◌, ℕ, Bool, true, false, List, [], ◌∷◌, ◌++◌, length, Ok, refl, ap, append_assoc, ◌==◌, arith}
use Rattle.std.specs.Prelude.{◌&&◌, codes, not}
use Rattle.std.specs.List.{list_any}
use Rattle.std.proofs.lemmas.Bool.{and_parts, ne_eqb, eqb-true, not-true}
use Rattle.names.specs.declared.permissions.Perms.{Perms}
use Rattle.names.specs.Permissions.{conflicts, has, letters, all_permissions}
use Rattle.rule_globs.specs.Tokens.{Token, byte, any_byte, bracket, stars, opening, between, closing}
use Rattle.names.specs.declared.kind.RuleKind.{RuleKind}
use Rattle.names.specs.declared.kind.RuleKind.TheVariants.{Allow, Deny}
use Rattle.rule_profile.specs.Profile.{RuleValue}
use Rattle.rule_profile.specs.Readable as readable
use Rattle.rule_reader.specs.ReadWords.{word}
use Rattle.rule_reader.specs.TextBytes.{begins, opens_blank}
use Rattle.rule_writer.specs.Canonical.{qualifier_text}
use Rattle.rule_writer.proofs.CanonItems.{path_parts}
use Rattle.rule_writer.proofs.CanonTexts.{perms_word}
use Rattle.apparmor_words.specs.Steps.{Stop, permissions}
use Rattle.apparmor_words.specs.Words.{is_path}
use Rattle.apparmor_text.specs.declared.part.PartKind.TheVariants as parts
use Rattle.apparmor_text.specs.declared.part.ItemKind.TheVariants as items
use Rattle.apparmor_text.specs.Parts.{PartValue}
use Rattle.apparmor_text.specs.WordParts.{path_part}
use Rattle.apparmor_text.specs.Rules as rules
use Rattle.import_laws.specs.CanonicalItems.{part_of, in_quotes, path_text, rule_item, qualifier_parts}
use Rattle.import_laws.specs.CanonicalItems.{plain_letters, ends_plainly}
use Rattle.import_laws.proofs.LettersRead.{letters_read}
use Rattle.import_laws.proofs.QuotedWords.{path_is_hidden}
use Rattle.import_laws.proofs.PartsRead.{reading, takes_none, takes_to, takes_front, reads_blank, reads_quoted}

-- ---- the path

-- a path begins with a slash
path_begins : (tokens : List Token) → readable.begins_with_slash tokens ≡ true → (more : List ℕ) × (path_text tokens ≡ 47 ∷ more)
path_begins [] h = absurd cc
path_begins (byte b ∷ tokens) h = let same : b ≡ 47 = eqb-true b 47 h in (path_text tokens, rw same refl)
path_begins (any_byte ∷ tokens) h = absurd cc
path_begins (bracket negated ranges ∷ tokens) h = absurd cc
path_begins (stars crosses strict ∷ tokens) h = absurd cc
path_begins (opening ∷ tokens) h = absurd cc
path_begins (between ∷ tokens) h = absurd cc
path_begins (closing ∷ tokens) h = absurd cc

reads_path : (read : List PartValue) (tokens : List Token) (rest : List ℕ) → readable.is_path tokens ≡ true
    → ends_plainly (path_text tokens) ≡ true
    → path_part parts.Path (reading read (34 ∷ (path_text tokens ++ 34 ∷ rest)))
    ≡ Ok (reading (read ++ (part_of parts.Path (in_quotes (path_text tokens)) ∷ [])) rest)
reads_path read tokens rest h plain =
    let p = path_parts tokens h in
    let first = path_begins tokens p.0 in
    let there : is_path (34 ∷ (path_text tokens ++ 34 ∷ rest)) ≡ true = rw (first.1) refl in
    rw there (reads_quoted parts.Path read (path_text tokens) rest (path_is_hidden false 0 tokens p.2) plain)

-- ---- the permissions

letters_word : (s : Perms) (rest : List ℕ) → word (letters s ++ 44 ∷ rest) ≡ letters s
letters_word s rest = grind arith

letters_begin : (s : Perms) (rest : List ℕ) → begins opens_blank (letters s ++ 44 ∷ rest) ≡ false
letters_begin s rest = grind arith

some_letters : (s : Perms) → list_any (has s) all_permissions ≡ true → not (conflicts s) ≡ true → (length (letters s) == 0) ≡ false
some_letters s h fits =
    let n = (perms_word s h (not-true (conflicts s) fits)).0 in ne_eqb (length (letters s)) 0 (λ e. absurd (omega (arith, n, e)))

reads_permissions : (denies : Bool) (unknown : Stop) (s : Perms) (rest : List ℕ) → list_any (has s) all_permissions ≡ true
    → not (conflicts s) ≡ true → rules.permissions_word denies unknown (letters s ++ 44 ∷ rest) ≡ Ok (plain_letters s)
reads_permissions denies unknown s rest h fits = rw (letters_word s rest, some_letters s h fits, letters_read s, fits) refl

takes_permissions : (read : List PartValue) (s : Perms) (rest : List ℕ) → list_any (has s) all_permissions ≡ true
    → not (conflicts s) ≡ true
    → rules.permissions_part (reading read (letters s ++ 44 ∷ rest)) ≡ reading (read ++ (part_of parts.Permissions (letters s) ∷ []))
    (44 ∷ rest)
takes_permissions read s rest h fits =
    rw (letters_word s rest) (takes_front parts.Permissions read (letters s) (44 ∷ rest) (some_letters s h fits))

-- ---- the rule

reads_end : (read : List PartValue) (rest : List ℕ) → rules.rule_end (reading read (44 ∷ rest))
    ≡ Ok (reading (read ++ (part_of parts.Comma (codes ",") ∷ [])) rest)
unfolding rules.rule_end
reads_end read rest = rw (takes_none parts.Blank read (44 ∷ rest)) refl

-- path, permissions and comma, in a rule that denies or not
abbrev pub body_text : RuleValue → List ℕ → List ℕ
body_text r rest = 34 ∷ (path_text r.items ++ 34 ∷ 32 ∷ (letters r.perms ++ 44 ∷ rest))

-- their parts
abbrev body_parts : RuleValue → List PartValue
body_parts r =
    part_of parts.Path (in_quotes (path_text r.items)) ∷ part_of parts.Blank (codes " ") ∷ part_of parts.Permissions (letters r.perms)
    ∷ part_of parts.Comma (codes ",") ∷ []

reads_body : (denies : Bool) (read : List PartValue) (r : RuleValue) (rest : List ℕ) → readable.is_rule r ≡ true
    → ends_plainly (path_text r.items) ≡ true
    → rules.path_first denies (reading read (body_text r rest)) ≡ Ok (reading (read ++ body_parts r) rest)
unfolding rules.path_first
reads_body denies read r rest h plain =
    let p = and_parts (list_any (has r.perms) all_permissions && not (conflicts r.perms)) (readable.is_path r.items) h in
    let some = and_parts (list_any (has r.perms) all_permissions) (not (conflicts r.perms)) p.0 in
    let path = part_of parts.Path (in_quotes (path_text r.items)) in
    let blank = part_of parts.Blank (codes " ") in
    let perms = part_of parts.Permissions (letters r.perms) in
    let behind = letters r.perms ++ 44 ∷ rest in
    let three = ((read ++ (path ∷ [])) ++ (blank ∷ [])) ++ (perms ∷ []) in
    let parted : three ++ (part_of parts.Comma (codes ",") ∷ []) ≡ read ++ body_parts r = simp append_assoc in
    rw (
      reads_path read r.items (32 ∷ behind) p.1 plain,
      reads_blank (read ++ (path ∷ [])) 32 [] behind refl (letters_begin r.perms rest),
      reads_permissions denies (record { kind = permissions; left = length behind }) r.perms rest some.0 some.1,
      takes_permissions ((read ++ (path ∷ [])) ++ (blank ∷ [])) r.perms rest some.0 some.1,
      reads_end three rest,
    ) (ap (λ (x : List PartValue). Ok (reading x rest)) parted)

-- a rule of this kind, with what comes after its qualifier
reads_kind : (kind : RuleKind) (r : RuleValue) (rest : List ℕ) → readable.is_rule r ≡ true → ends_plainly (path_text r.items) ≡ true
    → rules.rule_item (reading [] (qualifier_text kind ++ body_text r rest))
    ≡ Ok (items.Rule, reading (qualifier_parts kind ++ body_parts r) rest)
unfolding rules.rule_item rules.qualified_item rules.unqualified_item rules.body_part
reads_kind Allow r rest h plain = rw (reads_body false [] r rest h plain) refl
reads_kind Deny r rest h plain =
    let read = part_of parts.Deny (codes "deny") ∷ [] in
    rw (takes_to parts.Blank read 32 [] (body_text r rest), reads_body true (qualifier_parts Deny) r rest h plain) refl

-- a rule, and what is left after its comma
pub reads_rule : (r : RuleValue) (rest : List ℕ) → readable.is_rule r ≡ true → ends_plainly (path_text r.items) ≡ true
    → rules.rule_item (reading [] (qualifier_text r.kind ++ body_text r rest)) ≡ Ok (items.Rule, reading (rule_item r).parts rest)
reads_rule r rest h plain = reads_kind r.kind r rest h plain
