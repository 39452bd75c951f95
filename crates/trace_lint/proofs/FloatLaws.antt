-- What is found has no floats.
use Rattle.std.proofs.Common.{◌≡◌, ◌||◌, ℕ, Bool, false, List, [], ◌∷◌, Option, Some, None, map, refl}
use Rattle.std.specs.Prelude.{codes}
use Rattle.answer_json.specs.laws.NoFloats.{no_float_in_rule}
use Rattle.answer_json.specs.Values.{number_or_null, rule_object}
use Rattle.names.specs.declared.permissions.Permission.{Permission}
use Rattle.rule_globs.specs.Rules.{RuleValue}
use Rattle.rule_profile.specs.declared.profile.Span.{Span}
use Rattle.serde_json.specs.Data.{Data, member, no_members, object, string}
use Rattle.serde_json.specs.View.{items_of}
use Rattle.serde_json.specs.Written.{has_float, items_have_float}
use Rattle.trace_lint.specs.Values.{letter_value}

-- where neither test passes
neither : (a b : Bool) → a ≡ false → b ≡ false → a || b ≡ false
neither a b e1 e2 = rw (e1, e2) refl

module _ (text : List ℕ) (rules : List RuleValue) (spans : List Span) where
  pub no_float_in_rules : (numbers : List ℕ) → items_have_float (items_of (map (rule_object text rules spans) numbers)) ≡ false
  no_float_in_rules [] = refl
  no_float_in_rules (n ∷ numbers) = neither (has_float (rule_object text rules spans n)) _
      (no_float_in_rule text rules spans n) (no_float_in_rules numbers)

pub no_float_in_letter : (letter : Option Permission) → has_float (letter_value letter) ≡ false
no_float_in_letter None = refl
no_float_in_letter (Some p) = refl

no_float_in_number : (number : Option ℕ) → has_float (number_or_null number) ≡ false
no_float_in_number None = refl
no_float_in_number (Some n) = refl

pub no_float_in_parts : (number : Option ℕ) (word : List ℕ) (letter rule stand_ins : Data) → has_float letter ≡ false →
    has_float rule ≡ false → has_float stand_ins ≡ false → has_float (object (member (codes "also_idle") (number_or_null number)
    (member (codes "finding") (string word) (member (codes "permission") letter
    (member (codes "rule") rule (member (codes "stand_ins") stand_ins no_members)))))) ≡ false
no_float_in_parts number word letter rule stand_ins one two three =
    neither (has_float (number_or_null number)) _ (no_float_in_number number)
    (neither (has_float letter) _ one (neither (has_float rule) _ two (neither (has_float stand_ins) false three refl)))
