-- A rule as it is written in a canonical text, read as one of a flattened text.
use Rattle.std.proofs.Common.{◌≡◌, ◌≤◌, ℕ, ◌-◌, true, false, not, List, [], ◌∷◌, ◌++◌, length, take, Option, Some, None, refl, sym, ap}
use Rattle.std.proofs.Common.{◌∙◌, subst, arith}
use Rattle.std.specs.Prelude.{codes, nat_eq}
use Rattle.std.specs.List.{ends_with}
use Rattle.std.specs.Str.{bytes_eq}
use Rattle.std.proofs.lemmas.Bool.{and_parts, leb-true}
use Rattle.std.proofs.lemmas.List.{length-append}
use Rattle.std.proofs.Math.Seq.{take-append_seam}
use Rattle.rule_globs.specs.Rules.{RuleValue}
use Rattle.names.specs.declared.kind.RuleKind.{RuleKind}
use Rattle.names.specs.declared.kind.RuleKind.TheVariants.{Allow, Deny}
use Rattle.apparmor_words.specs.declared.letters.Letters.{Letters}
use Rattle.apparmor_words.specs.Letters.{no_letters}
use Rattle.apparmor_rules.specs.RuleParts.{has_long_slashes, marks_of}
use Rattle.apparmor_rules.specs.RuleWords.{content, kind_of, applies_to_of, perms_of_rule, path_of, target_of, letters_in, priority_of}
use Rattle.apparmor_rules.specs.declared.marks.Marks.{Marks}
use Rattle.import_laws.specs.CanonicalItems.{in_quotes, path_text, rule_item, plain_letters}
use Rattle.import_laws.proofs.LettersRead.{letters_read}
use Rattle.import_spans.specs.declared.context.RuleReading.{RuleReading}
use Rattle.import_profile.specs.Groups.{groups_choose}
use Rattle.import_profile.specs.ImportedPaths.{imported_paths}
use Rattle.import_profile.specs.OneWay.{is_read_one_way, opens_variable}
use Rattle.import_profile.specs.Settled.{is_settled_text}
use Rattle.import_profile.proofs.ImportLaws.{imported_as_it_is}
use Rattle.apparmor_variables.specs.PathTexts.{IsSubstituted}
use Rattle.apparmor_pieces.specs.Slashes.{one_slash}
use Rattle.apparmor_variables.specs.Variables.{Variable, most_bytes}
use Rattle.apparmor_rules.specs.declared.shape.RuleShape.{RuleShape}
use Rattle.apparmor_rules.specs.declared.subject.AppliesTo.TheVariants.{Everybody}
use Rattle.apparmor_rules.specs.declared.subject.Subject.{Subject}
use Rattle.apparmor_rules.specs.SubjectRules.{SubjectRule, read, no_priority}
use Rattle.import_profile.specs.Expanded.{expanded}
use Rattle.import_profile.specs.FileRules.{every_file, path_as, rule_text, subject_rule, reading_of, item_reading}
use Rattle.import_profile.proofs.ExpandedTexts.{is_expanded}
use Rattle.import_laws.proofs.Imported.{IsImported}
use Rattle.import_laws.proofs.Names.{unless}
use Rattle.import_laws.proofs.PlainTexts.{is_itself}

-- ---- words in quotes

pub quoted_content : (bytes : List ℕ) → content (in_quotes bytes) ≡ bytes
quoted_content bytes =
    let n : length (34 ∷ (bytes ++ 34 ∷ [])) - 2 ≡ length bytes = (let h = length-append bytes (34 ∷ []) in omega (arith, h)) in
    ap (λ k. take k (bytes ++ 34 ∷ [])) n ∙ take-append_seam bytes (34 ∷ [])

-- ---- the path

-- what it means that a path's text is settled
pub record Settles (text : List ℕ) : Type 0 where
  one : bytes_eq (one_slash text) text ≡ true
  plain : opens_variable text ≡ false
  pub ends : not (ends_with nat_eq text (codes "\\")) ≡ true
  short : length text ≤ most_bytes

pub settles : (r : RuleValue) → IsImported r → Settles (path_text r.items)
settles r h =
    let text = path_text r.items in
    let p = and_parts (groups_choose r.items) (is_settled_text text) h.settled in
    let q = and_parts (bytes_eq (one_slash text) text) _ p.1 in
    let way = and_parts (is_read_one_way text) _ q.1 in
    let alike = and_parts _ (not (opens_variable text)) way.0 in
    let rest = and_parts (not (ends_with nat_eq text (codes "\\"))) _ way.1 in
    record { one = q.0; plain = unless (opens_variable text) alike.1; ends = rest.0; short = leb-true (length text) most_bytes rest.1 }

pub own_text : (variables : List Variable) (r : RuleValue) → IsImported r →
    IsSubstituted variables (content (in_quotes (path_text r.items))) (path_text r.items)
own_text variables r h =
    let s = settles r h in
    subst (λ (t : List ℕ). IsSubstituted variables t (path_text r.items)) (sym (quoted_content (path_text r.items)))
    (is_itself variables (path_text r.items) s.plain s.short)

-- ---- what the rule says

-- the rule as one for everybody
abbrev pub plain_rule : RuleValue → SubjectRule
plain_rule r = record {
  kind = r.kind;
  applies_to = Everybody;
  perms = r.perms;
  target = None;
  path = read (r.items ∷ []);
  priority = no_priority;
}

letters_are : (r : RuleValue) (kind : RuleKind) → letters_in (rule_item (record r { kind = kind })).parts ≡ plain_letters r.perms
letters_are r Allow = ap (λ o. elim o [ None ↦ no_letters | Some l ↦ l ]) (letters_read r.perms)
letters_are r Deny = ap (λ o. elim o [ None ↦ no_letters | Some l ↦ l ]) (letters_read r.perms)

perms_are : (r : RuleValue) (kind : RuleKind) → perms_of_rule (rule_item (record r { kind = kind })).parts ≡ r.perms
perms_are r Allow = ap (λ (l : Letters). l.perms) (letters_are r Allow)
perms_are r Deny = ap (λ (l : Letters). l.perms) (letters_are r Deny)

kind_is : (r : RuleValue) (kind : RuleKind) → kind_of (rule_item (record r { kind = kind })).parts ≡ kind
kind_is r Allow = refl
kind_is r Deny = refl

for_all : (r : RuleValue) (kind : RuleKind) → applies_to_of (rule_item (record r { kind = kind })).parts ≡ Everybody
for_all r Allow = refl
for_all r Deny = refl

no_target : (r : RuleValue) (kind : RuleKind) → target_of (rule_item (record r { kind = kind })).parts ≡ None
no_target r Allow = refl
no_target r Deny = refl

says_no_priority : (r : RuleValue) (kind : RuleKind) → priority_of (rule_item (record r { kind = kind })).parts ≡ no_priority
says_no_priority r Allow = refl
says_no_priority r Deny = refl

path_there : (r : RuleValue) (kind : RuleKind) → path_of (rule_item (record r { kind = kind })).parts
    ≡ Some (content (in_quotes (path_text r.items)))
path_there r Allow = refl
path_there r Deny = refl

text_is : (variables : List Variable) (r : RuleValue) → IsImported r → rule_text variables (rule_item r).parts ≡ path_text r.items
text_is variables r h =
    ap (λ (o : Option (List ℕ)). elim o [ None ↦ every_file | Some path ↦ expanded variables path ]) (path_there r r.kind)
    ∙ sym (is_expanded variables (content (in_quotes (path_text r.items))) (path_text r.items) (own_text variables r h))

pub says_itself : (variables : List Variable) (r : RuleValue) → IsImported r → subject_rule variables (rule_item r).parts ≡ plain_rule r
says_itself variables r h =
    let all = (rule_item r).parts in
    let path : path_as (rule_text variables all) (imported_paths (rule_text variables all)) ≡ read (r.items ∷ []) =
    ap (λ (t : List ℕ). path_as t (imported_paths t)) (text_is variables r h) ∙ ap (path_as (path_text r.items))
    (imported_as_it_is r.items h.path h.settled) in
    λ i. record {
      kind = kind_is r r.kind i;
      applies_to = for_all r r.kind i;
      perms = perms_are r r.kind i;
      target =
          no_target r r.kind i;
      path = path i;
      priority = says_no_priority r r.kind i;
    }

-- ---- how it is reported

-- nothing of it is reported
abbrev pub plain_marks : RuleValue → Marks
plain_marks r = record { letters = plain_letters r.perms; slashes = false; pattern = false; link = false; binds = false }

abbrev pub plain_shape : RuleValue → RuleShape
plain_shape r = record { kind = r.kind; applies_to = Everybody; perms = r.perms; has_target = false; is_read = true; has_priority = false }

abbrev pub plain_reading : RuleValue → RuleReading
plain_reading r = record { shape = plain_shape r; marks = plain_marks r }

one_each : (r : RuleValue) → IsImported r → has_long_slashes (Some (content (in_quotes (path_text r.items)))) ≡ false
one_each r h =
    ap (λ (t : List ℕ). not (bytes_eq (one_slash t) t)) (quoted_content (path_text r.items)) ∙ ap not (settles r h).one

marks_are : (r : RuleValue) (kind : RuleKind) → IsImported r → marks_of false (rule_item (record r { kind = kind })).parts ≡ plain_marks r
marks_are r Allow h = λ i. record {
  letters = letters_are r Allow i;
  slashes = one_each r h i;
  pattern = false;
  link =
      false;
  binds = false;
}
marks_are r Deny h = λ i. record { letters = letters_are r Deny i; slashes = one_each r h i; pattern = false; link = false; binds = false }

pub is_told : (variables : List Variable) (chosen : Subject) (r : RuleValue) → IsImported r → item_reading variables chosen (rule_item r)
    ≡ plain_reading r
is_told variables chosen r h =
    ap (λ (rule : SubjectRule). reading_of variables chosen rule (rule_item r).parts) (says_itself variables r h)
    ∙ ap (λ (m : Marks). record { shape = plain_shape r; marks = m }) (marks_are r r.kind h)
