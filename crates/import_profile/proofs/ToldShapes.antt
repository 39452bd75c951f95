-- A rule that wouldn't be restated anyway, reported as if its path were read: nothing else is reported differently.
use Rattle.std.proofs.Common.{◌≡◌, ℕ, Bool, true, false, not, ◌&&◌, cond, List, [], ◌∷◌, map, length, Option, Some, None, is_some, refl}
use Rattle.std.proofs.Common.{sym, ap, ◌∙◌}
use Rattle.std.specs.Prelude.{option_map}
use Rattle.std.proofs.Math.Dec.{eqb-suc-zero}
use Rattle.rule_globs.specs.Tokens.{Token}
use Rattle.apparmor_rules.specs.RuleWords.{path_of}
use Rattle.apparmor_text.specs.Parts.{PartValue}
use Rattle.import_profile.specs.ImportedPaths.{imported_paths}
use Rattle.apparmor_variables.specs.Variables.{Variable}
use Rattle.apparmor_rules.specs.declared.shape.RuleShape.{RuleShape}
use Rattle.apparmor_rules.specs.declared.subject.Subject.{Subject}
use Rattle.apparmor_rules.specs.Changes.{change, restated_change, left_out_change}
use Rattle.apparmor_rules.specs.Restatement.{has_priority, has_some, is_restated, restated_paths, restated_perms, shape_of}
use Rattle.apparmor_rules.specs.SubjectRules.{SubjectRule, read, unread}
use Rattle.apparmor_rules.specs.Subjects.{applies_to}
use Rattle.import_profile.specs.Expanded.{expanded}
use Rattle.import_profile.specs.FileRules.{PlacedRule, every_file, path_as, rule_text, subject_path, told_shape}
use Rattle.import_profile.specs.Restated.{restated_at}
use Rattle.import_profile.specs.inner.GatheredRules.{paths_looked_at, placed_value, restated_values, text_of_path}
use Rattle.import_profile.proofs.Gathers.{restated_by_shape}

abbrev some_left : RuleShape → Bool
some_left shape = has_some (restated_perms shape.perms shape.has_target)

-- whether it is restated is unchanged
pub told_is_restated : (chosen : Subject) (shape : RuleShape) → is_restated chosen (told_shape chosen shape) ≡ is_restated chosen shape
told_is_restated chosen shape = at (applies_to shape.applies_to chosen) shape.is_read (not shape.has_priority) (some_left shape)
  where
    at : (a r q l : Bool) → (a && (not (not r && (a && (true && q) && l)) && q) && l) ≡ (a && (r && q) && l)
    at true true q l = refl
    at true false true true = refl
    at true false true false = refl
    at true false false l = refl
    at false r q l = refl

-- and so is what it changes for a subject
pub told_change : (chosen subject : Subject) (shape : RuleShape) → change chosen subject (told_shape chosen shape)
    ≡ change chosen subject shape
told_change chosen subject shape =
    ap (λ (b : Bool). cond b (restated_change subject shape) (left_out_change subject shape)) (told_is_restated chosen shape)

-- by whether it applies, is read, has no priority, and has any permission left
looked_by : (place : ℕ) (shape : RuleShape) (a read q l : Bool) (paths : List (List Token))
    → cond (a && (not (not read && (a && (true && q) && l)) && q) && l)
    (map (placed_value place shape) (cond (a && (true && q) && l) paths [])) []
    ≡ cond (a && (read && q) && l) (map (placed_value place shape) paths) []
looked_by place shape true true true true paths = refl
looked_by place shape true true true false paths = refl
looked_by place shape true false true true paths = refl
looked_by place shape true false true false paths = refl
looked_by place shape true true false l paths = refl
looked_by place shape true false false l paths = refl
looked_by place shape false _ q l paths = refl

-- the paths that are looked at are those that it is restated with
pub looked_at : (chosen : Subject) (r : PlacedRule)
    → restated_values r.place chosen (told_shape chosen (shape_of r.rule)) (paths_looked_at chosen r.rule) ≡ restated_at chosen r
looked_at chosen r =
    let shape = shape_of r.rule in
    looked_by r.place shape (applies_to shape.applies_to chosen) shape.is_read (not shape.has_priority) (some_left shape)
    (restated_paths r.rule.path)
    ∙ sym (restated_by_shape chosen r)

-- ---- a rule as code reads it

pub some_kept : {A B : Type 0} (f : A → B) (o : Option A) → is_some (option_map f o) ≡ is_some o
some_kept f None = refl
some_kept f (Some x) = refl

-- if it would be restated with its path read, all of its paths are looked at
pub when_looked : (chosen : Subject) (rule : SubjectRule) (shape : RuleShape) (is : Bool) (paths : List (List Token))
    → shape.kind ≡ rule.kind → shape.applies_to ≡ rule.applies_to → shape.perms ≡ rule.perms → shape.has_target ≡ is_some rule.target →
    shape.is_read ≡ true → shape.has_priority ≡ has_priority rule.priority → is ≡ is_restated chosen shape → is ≡ true →
    paths ≡ restated_paths rule.path →
    paths ≡ paths_looked_at chosen rule
when_looked chosen rule shape is paths kind to perms target whole priority e stays h =
    let same : shape ≡ record (shape_of rule) { is_read = true } =
    λ i. record {
      kind = kind i;
      applies_to = to i;
      perms = perms i;
      has_target = target i;
      is_read = whole i;
      has_priority = priority i;
    } in
    h ∙ ap (λ (b : Bool). cond b (restated_paths rule.path) []) (sym stays ∙ e ∙ ap (is_restated chosen) same)

-- the text of its path, as code makes it
text_by : (variables : List Variable) (path : Option (List ℕ)) → text_of_path variables path
    ≡ elim path [ None ↦ every_file | Some path ↦ expanded variables path ]
text_by variables None = refl
text_by variables (Some path) = refl

as_they_are : (text : List ℕ) (paths : List (List Token)) → paths ≡ restated_paths (path_as text paths)
as_they_are text [] = refl
as_they_are text (path ∷ paths) = ap (λ (b : Bool). restated_paths (cond b (unread text) (read (path ∷ paths))))
    (sym (eqb-suc-zero (length paths)))

pub paths_of_text : (variables : List Variable) (parts : List PartValue) (path : Option (List ℕ)) (text : List ℕ)
    (paths : List (List Token))
    → path ≡ path_of parts → text ≡ text_of_path variables path → paths ≡ imported_paths text
    → paths ≡ restated_paths (subject_path (rule_text variables parts))
paths_of_text variables parts path text paths e f h =
    let same = f ∙ ap (text_of_path variables) e ∙ text_by variables (path_of parts) in
    h ∙ ap imported_paths same ∙ as_they_are (rule_text variables parts) (imported_paths (rule_text variables parts))
