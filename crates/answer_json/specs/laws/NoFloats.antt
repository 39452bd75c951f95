-- The values of answers have no floats.
use Rattle.std.proofs.Common.{◌≡◌, ℕ, Bool, true, false, List, [], ◌∷◌, map, filter, refl}
use Rattle.std.specs.Prelude.{◌||◌, codes, if◌then◌else◌}
use Rattle.std.specs.Str.{is_utf8}
use Rattle.names.specs.declared.permissions.Permission.{Permission}
use Rattle.names.specs.declared.permissions.Perms.{Perms}
use Rattle.names.specs.declared.verdict.Verdict.{Verdict}
use Rattle.names.specs.declared.verdict.Verdict.TheVariants.{Allowed, Denied, NoRule}
use Rattle.names.specs.Permissions.{all_permissions, has}
use Rattle.rule_globs.specs.PlainVerdict.{verdict}
use Rattle.rule_explain.specs.declared.reason.Reason.{Reason}
use Rattle.rule_explain.specs.declared.reason.Reason.TheVariants as reasons
use Rattle.rule_explain.specs.Explanations.{text_of_rule}
use Rattle.rule_explain.specs.Reasons.{reason}
use Rattle.rule_profile.specs.declared.profile.Span.{Span}
use Rattle.rule_profile.specs.Profile.{RuleValue}
use Rattle.serde_json.specs.Data.{array, member, no_members, object, string}
use Rattle.serde_json.specs.View.{items_of}
use Rattle.serde_json.specs.Written.{has_float, items_have_float}
use Rattle.answer_json.specs.Values.{missing_letters, denying_rule, name_value, number_or_null, number_value, object_of_reason}
use Rattle.answer_json.specs.Values.{reasons_array, rule_object, rule_of_reason, verdict_object, verdict_word, explanation_object}
use Rattle.answer_json.specs.inner.Front.{rest_of_match}

numbers : (bytes : List ℕ) → items_have_float (items_of (map number_value bytes)) ≡ false
numbers [] = refl
numbers (b ∷ bytes) = numbers bytes

pub no_float_in_name : (bytes : List ℕ) → has_float (name_value bytes) ≡ false
no_float_in_name bytes = at (is_utf8 bytes)
  where
    at : (b : Bool) → has_float (if b then string bytes else array (items_of (map number_value bytes))) ≡ false
    at true = refl
    at false = numbers bytes

-- a last test that is false changes nothing
neither : (a b : Bool) → a ≡ false → b ≡ false → a || b ≡ false
neither a b e1 e2 = rw (e1, e2) refl

pub no_float_in_rule : (text : List ℕ) (rules : List RuleValue) (spans : List Span) (n : ℕ) →
    has_float (rule_object text rules spans n) ≡ false
no_float_in_rule text rules spans n = neither (has_float (name_value (text_of_rule rules n))) false
    (no_float_in_name (text_of_rule rules n)) refl

no_float_in_rule_of : (text : List ℕ) (rules : List RuleValue) (spans : List Span) (why : Reason) →
    has_float (rule_of_reason text rules spans why) ≡ false
no_float_in_rule_of text rules spans (reasons.Allowed n) = no_float_in_rule text rules spans n
no_float_in_rule_of text rules spans (reasons.Denied n) = no_float_in_rule text rules spans n
no_float_in_rule_of text rules spans reasons.NoRule = refl

pub no_float_in_reason : (text : List ℕ) (rules : List RuleValue) (spans : List Span) (p : Permission) (why : Reason) →
    has_float (object_of_reason text rules spans p why) ≡ false
no_float_in_reason text rules spans p why = neither (has_float (rule_of_reason text rules spans why)) false
    (no_float_in_rule_of text rules spans why) refl

-- those of a list of reasons
pub no_float_in_reasons : (text : List ℕ) (rules : List RuleValue) (spans : List Span) (why : Permission → Reason)
    (ps : List Permission) → items_have_float (items_of (map (λ p. object_of_reason text rules spans p (why p)) ps)) ≡ false
no_float_in_reasons text rules spans why [] = refl
no_float_in_reasons text rules spans why (p ∷ ps) = neither (has_float (object_of_reason text rules spans p (why p)))
    (items_have_float (items_of (map (λ q. object_of_reason text rules spans q (why q)) ps)))
    (no_float_in_reason text rules spans p (why p)) (no_float_in_reasons text rules spans why ps)

pub no_float_in_verdict : (v : Verdict) → has_float (verdict_object v) ≡ false
no_float_in_verdict Allowed = refl
no_float_in_verdict (Denied n) = refl
no_float_in_verdict (NoRule missing) = refl

pub no_float_in_explanation : (text : List ℕ) (rules : List RuleValue) (spans : List Span) (name : List ℕ) (ask : Perms) →
    has_float (explanation_object text rules spans name ask) ≡ false
no_float_in_explanation text rules spans name ask = at (verdict rules name ask)
  where
    why : has_float (reasons_array text rules spans name ask) ≡ false
    why = no_float_in_reasons text rules spans (reason rules name) (filter (has ask) all_permissions)

    at : (v : Verdict) → has_float (object (member (codes "missing") (missing_letters v)
        (member (codes "reasons") (reasons_array text rules spans name ask)
        (member (codes "rule") (number_or_null (denying_rule v))
        (member (codes "verdict") (string (verdict_word v)) no_members))))) ≡ false
    at Allowed = neither (has_float (reasons_array text rules spans name ask)) false why refl
    at (Denied n) = neither (has_float (reasons_array text rules spans name ask)) false why refl
    at (NoRule missing) = neither (has_float (reasons_array text rules spans name ask)) false why refl

pub no_float_in_match : (v : Verdict) (steps : ℕ) → has_float (rest_of_match v steps) ≡ false
no_float_in_match Allowed steps = refl
no_float_in_match (Denied n) steps = refl
no_float_in_match (NoRule missing) steps = refl
