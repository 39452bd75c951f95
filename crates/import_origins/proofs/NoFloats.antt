-- The values of these explanations have no floats.
use Rattle.std.proofs.Common.{◌≡◌, ℕ, Bool, true, false, List, [], ◌∷◌, ◌++◌, refl}
use Rattle.std.specs.Prelude.{◌||◌, codes, flat_map, if◌then◌else◌, Option, Some, None}
use Rattle.names.specs.declared.permissions.Permission.{Permission}
use Rattle.names.specs.declared.permissions.Perms.{Perms}
use Rattle.names.specs.declared.verdict.Verdict.{Verdict}
use Rattle.names.specs.declared.verdict.Verdict.TheVariants.{Allowed, Denied, NoRule}
use Rattle.names.specs.Permissions.{all_permissions, has}
use Rattle.rule_globs.specs.PlainVerdict.{verdict}
use Rattle.rule_explain.specs.declared.reason.Reason.{Reason}
use Rattle.rule_explain.specs.declared.reason.Reason.TheVariants as reasons
use Rattle.rule_explain.specs.Explanations.{text_of_rule}
use Rattle.rule_explain.specs.Reasons.{reason}
use Rattle.rule_profile.specs.declared.profile.Span.{Span}
use Rattle.rule_profile.specs.Profile.{RuleValue}
use Rattle.serde_json.specs.Data.{Data, member, no_members, object, string}
use Rattle.serde_json.specs.View.{items_of}
use Rattle.serde_json.specs.Written.{has_float, items_have_float}
use Rattle.answer_json.specs.Values.{missing_letters, denying_rule, name_value, number_or_null, verdict_word}
use Rattle.answer_json.specs.laws.NoFloats.{no_float_in_name}
use Rattle.import_origins.specs.OriginObjects.{file_value, object_of_reason, origin_object, origin_rule_object, reason_objects}
use Rattle.import_origins.specs.OriginObjects.{reasons_array, rule_of_reason}
use Rattle.import_origins.specs.Origins.{file_of_rule}

neither : (a b : Bool) → a ≡ false → b ≡ false → a || b ≡ false
neither a b e1 e2 = rw (e1, e2) refl

no_float_in_file : (file : Option (List ℕ)) → has_float (file_value file) ≡ false
no_float_in_file None = refl
no_float_in_file (Some file) = no_float_in_name file

no_float_in_rule : (text : List ℕ) (rules : List RuleValue) (spans : List Span) (n : ℕ) →
    has_float (origin_rule_object text rules spans n) ≡ false
no_float_in_rule text rules spans n =
    neither (has_float (file_value (file_of_rule text spans n))) _ (no_float_in_file (file_of_rule text spans n))
    (neither (has_float (name_value (text_of_rule rules n))) false (no_float_in_name (text_of_rule rules n)) refl)

no_float_in_rule_of : (text : List ℕ) (rules : List RuleValue) (spans : List Span) (why : Reason) →
    has_float (rule_of_reason text rules spans why) ≡ false
no_float_in_rule_of text rules spans (reasons.Allowed n) = no_float_in_rule text rules spans n
no_float_in_rule_of text rules spans (reasons.Denied n) = no_float_in_rule text rules spans n
no_float_in_rule_of text rules spans reasons.NoRule = refl

no_float_in_reason : (text : List ℕ) (rules : List RuleValue) (spans : List Span) (p : Permission) (why : Reason) →
    has_float (object_of_reason text rules spans p why) ≡ false
no_float_in_reason text rules spans p why = neither (has_float (rule_of_reason text rules spans why)) false
    (no_float_in_rule_of text rules spans why) refl

-- one more, if it is asked
no_float_in_more : (text : List ℕ) (rules : List RuleValue) (spans : List Span) (name : List ℕ) (p : Permission) (others : List Data)
    (b : Bool) → items_have_float (items_of others) ≡ false
    → items_have_float (items_of ((if b then object_of_reason text rules spans p (reason rules name p) ∷ [] else []) ++ others)) ≡ false
no_float_in_more text rules spans name p others true rest =
    neither (has_float (object_of_reason text rules spans p (reason rules name p))) (items_have_float (items_of others))
    (no_float_in_reason text rules spans p (reason rules name p)) rest
no_float_in_more text rules spans name p others false rest = rest

-- those of a list of permissions
no_float_in_reasons : (text : List ℕ) (rules : List RuleValue) (spans : List Span) (name : List ℕ) (ask : Perms) (ps : List Permission) →
    items_have_float (items_of (flat_map (reason_objects text rules spans name ask) ps)) ≡ false
no_float_in_reasons text rules spans name ask [] = refl
no_float_in_reasons text rules spans name ask (p ∷ ps) =
    no_float_in_more text rules spans name p (flat_map (reason_objects text rules spans name ask) ps) (has ask p)
    (no_float_in_reasons text rules spans name ask ps)

pub no_float_in_origins : (text : List ℕ) (rules : List RuleValue) (spans : List Span) (name : List ℕ) (ask : Perms) →
    has_float (origin_object text rules spans name ask) ≡ false
no_float_in_origins text rules spans name ask = at (verdict rules name ask)
  where
    why : has_float (reasons_array text rules spans name ask) ≡ false
    why = no_float_in_reasons text rules spans name ask all_permissions

    at : (v : Verdict) → has_float (object (member (codes "missing") (missing_letters v)
        (member (codes "reasons") (reasons_array text rules spans name ask)
        (member (codes "rule") (number_or_null (denying_rule v))
        (member (codes "verdict") (string (verdict_word v)) no_members))))) ≡ false
    at Allowed = neither (has_float (reasons_array text rules spans name ask)) false why refl
    at (Denied n) = neither (has_float (reasons_array text rules spans name ask)) false why refl
    at (NoRule missing) = neither (has_float (reasons_array text rules spans name ask)) false why refl
