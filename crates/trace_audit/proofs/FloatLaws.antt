-- What is reported about a denial has no floats.
use Rattle.std.proofs.Common.{◌≡◌, ◌||◌, ℕ, Bool, false, List, [], ◌∷◌, Option, Some, None, map, refl}
use Rattle.answer_json.specs.laws.NoFloats.{no_float_in_name}
use Rattle.answer_json.specs.Values.{name_value, number_value}
use Rattle.serde_json.specs.Data.{Data, array}
use Rattle.serde_json.specs.View.{items_of}
use Rattle.serde_json.specs.Written.{has_float, items_have_float}
use Rattle.trace_audit.specs.Answers.{Answer, no_profile, not_imported, not_judged, allowed_by, denied_by, no_rule}
use Rattle.trace_audit.specs.Groups.{Group}
use Rattle.trace_audit.specs.Values.{added_value, deciding, denial_object, file_value, info_value, missing_value}

-- where neither test passes
neither : (a b : Bool) → a ≡ false → b ≡ false → a || b ≡ false
neither a b e1 e2 = rw (e1, e2) refl

in_numbers : (numbers : List ℕ) → items_have_float (items_of (map number_value numbers)) ≡ false
in_numbers [] = refl
in_numbers (n ∷ numbers) = in_numbers numbers

in_added : (answer : Answer) → has_float (added_value answer) ≡ false
in_added (no_rule perms (Some rule)) = no_float_in_name rule
in_added (no_rule perms None) = refl
in_added no_profile = refl
in_added (not_imported refusal) = refl
in_added not_judged = refl
in_added (allowed_by rules) = refl
in_added (denied_by n text) = refl

in_missing : (answer : Answer) → has_float (missing_value answer) ≡ false
in_missing (no_rule perms add) = refl
in_missing no_profile = refl
in_missing (not_imported refusal) = refl
in_missing not_judged = refl
in_missing (allowed_by rules) = refl
in_missing (denied_by n text) = refl

in_file : (answer : Answer) → has_float (file_value answer) ≡ false
in_file (not_imported refusal) = no_float_in_name refusal.file
in_file no_profile = refl
in_file not_judged = refl
in_file (allowed_by rules) = refl
in_file (denied_by n text) = refl
in_file (no_rule perms add) = refl

in_info : (info : Option (List ℕ)) → has_float (info_value info) ≡ false
in_info None = refl
in_info (Some info) = no_float_in_name info

pub no_float_in_denial : (g : Group) (answer : Answer) → has_float (denial_object g answer) ≡ false
no_float_in_denial g answer =
    neither (has_float (added_value answer)) _ (in_added answer)
    (neither (has_float (file_value answer)) _ (in_file answer)
    (neither (has_float (info_value g.denial.info)) _ (in_info g.denial.info)
    (neither (has_float (name_value g.denial.mask)) _ (no_float_in_name g.denial.mask)
    (neither (has_float (missing_value answer)) _ (in_missing answer)
    (neither (has_float (name_value g.denial.name)) _ (no_float_in_name g.denial.name)
    (neither (has_float (name_value g.denial.profile)) _ (no_float_in_name g.denial.profile)
    (neither (has_float (array (items_of (map number_value (deciding answer))))) false (in_numbers (deciding answer)) refl)))))))
