-- A rule as restated, by its shape and its paths; and more rules than a profile may have.
use Rattle.std.specs.Prelude.{◌≡◌, ℕ, List, [], map, slice_get, Option, Some, None, option_map, true, if◌then◌else◌}
use Rattle.rule_profile.specs.Limits.{most_rules}
use Rattle.apparmor_variables.specs.Variables.{Variable}
use Rattle.rule_globs.specs.Tokens.{Token}
use Rattle.apparmor_rules.specs.declared.shape.RuleShape.{RuleShape}
use Rattle.apparmor_rules.specs.declared.subject.Subject.{Subject}
use Rattle.apparmor_rules.specs.Restatement.{fitting_letters, is_restated, restated_paths, restated_perms, shape_of}
use Rattle.apparmor_rules.specs.SubjectRules.{SubjectRule}
use Rattle.import_profile.specs.Expanded.{expanded}
use Rattle.import_profile.specs.Faults.{ImportFault, too_many_rules}
use Rattle.import_profile.specs.FileRules.{every_file}
use Rattle.import_profile.specs.Restated.{PlacedValue}

abbrev pub text_of_path : List Variable → Option (List ℕ) → List ℕ
text_of_path variables None = every_file
text_of_path variables (Some path) = expanded variables path

-- a rule of this shape, restated with this path
abbrev pub placed_value : ℕ → RuleShape → List Token → PlacedValue
placed_value place shape path = record {
  place = place;
  value = record {
    kind = shape.kind;
    perms = fitting_letters (restated_perms shape.perms shape.has_target);
    items = path;
  };
}

abbrev pub restated_values : ℕ → Subject → RuleShape → List (List Token) → List PlacedValue
restated_values place chosen shape paths = if is_restated chosen shape then map (placed_value place shape) paths else []

-- the paths that are looked at: those of a rule that is restated, if they are read
abbrev pub paths_looked_at : Subject → SubjectRule → List (List Token)
paths_looked_at chosen rule =
    if is_restated chosen (record (shape_of rule) { is_read = true }) then restated_paths rule.path else []

-- the place of the rule that is one too many
abbrev pub one_too_many : List PlacedValue → Option ℕ
one_too_many rules = option_map (λ rule. rule.place) (slice_get rules most_rules)

-- these rules are too many, and that is the fault
abbrev pub AreTooMany : List PlacedValue → ImportFault → Type 0
AreTooMany rules fault = option_map too_many_rules (one_too_many rules) ≡ Some fault
