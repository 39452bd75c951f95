-- The rules that explanations name: where they are, and what is said about them.
use Rattle.std.proofs.Common.{◌≡◌, ℕ, zero, suc, ◌-◌, ◌<◌, ◌≤◌, true, List, [], ◌∷◌, ◌++◌, length, map, get_or, Option, Some, Ok, refl}
use Rattle.std.proofs.Common.{sym, ap, ◌∙◌, append_assoc, arith}
use Rattle.std.specs.Prelude.{codes, decimal, slice_get}
use Rattle.std.specs.List.{list_all}
use Rattle.std.specs.Option.{option_map_or}
use Rattle.std.proofs.lemmas.Bool.{and_parts}
use Rattle.std.proofs.lemmas.Option.{get_or_from_slice_get, slice_get-map, slice_get_read}
use Rattle.names.specs.declared.permissions.Permission.{Permission}
use Rattle.rule_profile.specs.declared.profile.Rule.{Rule}
use Rattle.rule_profile.specs.declared.profile.Span.{Span}
use Rattle.rule_profile.specs.Profile.{RuleValue, rule_value}
use Rattle.rule_profile.specs.Readable.{is_rule}
use Rattle.rule_reader.specs.ReadText.{rule_at}
use Rattle.rule_profile.specs.RuleSpans.{rule_span}
use Rattle.rule_reader.specs.Spans.{AreReadAgain, IsReadAgain, spans_of}
use Rattle.rule_writer.specs.Canonical.{rule_text}
use Rattle.rule_explain.specs.declared.reason.Reason.{Reason}
use Rattle.rule_explain.specs.declared.reason.Reason.TheVariants.{Allowed, Denied, NoRule}
use Rattle.rule_explain.specs.Explanations.{rule_told}
use Rattle.rule_explain.specs.Places.{place_at}
use Rattle.rule_explain.specs.Reasons.{IsReason}
use Rattle.rule_explain.specs.Told.{IsToldRule, IsRightlyTold}

-- ---- a rule by its number, in the code

-- a rule's number, its line and its text
pub told_so : (text : List ℕ) (rules : List Rule) (n : ℕ) (rule : Rule) → 1 ≤ n → n ≤ length rules → rule ≡ get_or rules (n - 1) rule
    → (codes "rule " ++ (decimal n ++ (codes ", line " ++ (decimal (place_at text (rule_span rule).start).line ++ codes ": "))))
    ++ rule_text (rule_value rule) ≡ rule_told text (map rule_value rules) (map rule_span rules) n
told_so text rules n rule some most is =
    let there : slice_get rules (n - 1) ≡ Some rule = slice_get_read rules (length rules) (n - 1) rule refl (omega arith) is in
    let value : slice_get (map rule_value rules) (n - 1) ≡ Some (rule_value rule) = slice_get-map rule_value rules (n - 1)
    ∙ rw there refl in
    let span : slice_get (map rule_span rules) (n - 1) ≡ Some (rule_span rule) = slice_get-map rule_span rules (n - 1) ∙ rw there refl in
    rw (value, span) (simp append_assoc)

-- ---- the rules of a text

-- a rule by its index, and where it is in the text
record Found (text : List ℕ) (rules : List RuleValue) (spans : List Span) (i : ℕ) : Type 0 where
  rule : RuleValue
  span : Span
  is : slice_get rules i ≡ Some rule
  at : slice_get spans i ≡ Some span
  again : IsReadAgain text rule span
  valid : is_rule rule ≡ true

found : (text : List ℕ) (past : ℕ) (rules : List RuleValue) (spans : List Span) (i : ℕ) → AreReadAgain text past rules spans →
    list_all is_rule rules ≡ true → i < length rules → Found text rules spans i
found text past [] spans i again valid lt = absurd (omega arith)
found text past (rule ∷ rules) [] i again valid lt = absurd again
found text past (rule ∷ rules) (span ∷ spans) zero again valid lt =
    record {
      rule = rule;
      span = span;
      is = refl;
      at = refl;
      again = again.1;
      valid =
          (and_parts (is_rule rule) (list_all is_rule rules) valid).0;
    }
found text past (rule ∷ rules) (span ∷ spans) (suc i) again valid lt =
    let f = found text span.end rules spans i again.2 (and_parts (is_rule rule) (list_all is_rule rules) valid).1 (omega arith) in
    record { rule = f.rule; span = f.span; is = f.is; at = f.at; again = f.again; valid = f.valid }

-- a rule's text is read again as that rule
abbrev pub IsWritten : Type 0
IsWritten = (r : RuleValue) (more : List ℕ) → is_rule r ≡ true → rule_at (rule_text r ++ more) ≡ Ok (r, more)

told_rule : IsWritten → (text : List ℕ) (rules : List RuleValue) (n : ℕ) → AreReadAgain text 0 rules (spans_of text) →
    list_all is_rule rules ≡ true → 1 ≤ n → n ≤ length rules → IsToldRule text rules n
told_rule written text rules n again valid some most =
    let f = found text 0 rules (spans_of text) (n - 1) again valid (omega arith) in
    record {
      rule = f.rule;
      numbered = (some, most, sym (get_or_from_slice_get rules (n - 1) f.rule f.rule f.is));
      span = f.span;
      stands = f.again;
      line = ap (λ (o : Option Span). (place_at text (option_map_or (λ span. span.start) o 0)).line) f.at;
      told = λ more. ap (λ (o : Option RuleValue). rule_at (option_map_or rule_text o [] ++ more)) f.is ∙ written f.rule more f.valid;
    }

pub rightly_told : IsWritten → (text : List ℕ) (rules : List RuleValue) (name : List ℕ) (p : Permission) (reason : Reason) →
    AreReadAgain text 0 rules (spans_of text) → list_all is_rule rules ≡ true → IsReason rules name p reason
    → IsRightlyTold text rules name p reason
rightly_told written text rules name p (Allowed n) again valid h = (h, told_rule written text rules n again valid h.1.0.1.0 h.1.0.1.1)
rightly_told written text rules name p (Denied n) again valid h = (h, told_rule written text rules n again valid h.0.1.0 h.0.1.1)
rightly_told written text rules name p NoRule again valid h = h
