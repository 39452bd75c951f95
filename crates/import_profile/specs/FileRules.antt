-- The file rules of a profile in a flattened text, each with its subject, and how they are reported (apparmor.d(5), "Format").
use Rattle.std.specs.Prelude.{ℕ, List, [], ◌∷◌, ◌++◌, length, codes, Some, None, Bool, true, not, ◌&&◌, ◌==◌, if◌then◌else◌}
use Rattle.apparmor_text.specs.Parts.{PartValue, ItemValue}
use Rattle.apparmor_rules.specs.RuleWords.{kind_of, applies_to_of, perms_of_rule, path_of, priority_of, target_of}
use Rattle.apparmor_rules.specs.RuleParts.{marks_of}
use Rattle.import_spans.specs.declared.context.RuleReading.{RuleReading}
use Rattle.import_spans.specs.CutStates.{CutState}
use Rattle.import_spans.specs.Cuts.{cut_item, is_chosen_rule}
use Rattle.import_profile.specs.ImportedPaths.{imported_paths}
use Rattle.apparmor_variables.specs.Variables.{Variable}
use Rattle.rule_globs.specs.Tokens.{Token}
use Rattle.apparmor_rules.specs.declared.shape.RuleShape.{RuleShape}
use Rattle.apparmor_rules.specs.declared.subject.Subject.{Subject}
use Rattle.apparmor_rules.specs.Restatement.{is_restated, shape_of}
use Rattle.apparmor_rules.specs.SubjectRules.{SubjectPath, SubjectRule, read, unread}
use Rattle.import_profile.specs.Expanded.{expanded}

-- what the word file by itself stands for: the root, and each name below it
abbrev pub every_file : List ℕ
every_file = codes "/{**,}"

-- the text of a rule's path, with its variables in place
abbrev pub rule_text : List Variable → List PartValue → List ℕ
rule_text variables parts = elim (path_of parts) [
  | None ↦ every_file
  | Some path ↦ expanded variables path
]

-- the paths that a text is converted to; if there are none, AppArmor reads it in its own way
abbrev pub path_as : List ℕ → List (List Token) → SubjectPath
path_as text paths = if length paths == 0 then unread text else read paths

abbrev pub subject_path : List ℕ → SubjectPath
subject_path text = path_as text (imported_paths text)

-- what a rule of these parts says
abbrev pub subject_rule : List Variable → List PartValue → SubjectRule
subject_rule variables parts = record {
  kind = kind_of parts;
  applies_to = applies_to_of parts;
  perms = perms_of_rule parts;
  target = target_of parts;
  path = subject_path (rule_text variables parts);
  priority = priority_of parts;
}

-- the rule would be restated if its path were read
abbrev pub goes_for_its_path : Subject → RuleShape → Bool
goes_for_its_path chosen shape = not shape.is_read && is_restated chosen (record shape { is_read = true })

-- A rule that wouldn't be restated anyway is reported alike, whether its path is read or not: so that path need not be examined.
abbrev pub told_shape : Subject → RuleShape → RuleShape
told_shape chosen shape = record shape { is_read = not (goes_for_its_path chosen shape) }

-- how such a rule is reported
abbrev pub reading_of : List Variable → Subject → SubjectRule → List PartValue → RuleReading
reading_of variables chosen rule parts = record {
  shape = told_shape chosen (shape_of rule);
  marks = marks_of (goes_for_its_path chosen (shape_of rule)) parts;
}

abbrev pub item_reading : List Variable → Subject → ItemValue → RuleReading
item_reading variables chosen item = reading_of variables chosen (subject_rule variables item.parts) item.parts

-- a rule, and the offset in the text of what it comes from
pub record PlacedRule : Type 0 where
  pub place : ℕ
  pub rule : SubjectRule

-- the rule of an item, if it is one of the chosen profile
abbrev pub rules_at : List Variable → ItemValue → CutState → List PlacedRule
rules_at variables item s =
    if is_chosen_rule item s then record { place = s.at; rule = subject_rule variables item.parts } ∷ [] else []

-- the rules of the chosen profile, in their order
abbrev pub rules_in : List Variable → Subject → List ItemValue → CutState → List PlacedRule
rules_in variables chosen [] s = []
rules_in variables chosen (item ∷ items) s =
    rules_at variables item s ++ rules_in variables chosen items (cut_item (item_reading variables chosen item) item s)
