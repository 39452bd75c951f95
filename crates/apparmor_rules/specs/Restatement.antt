-- How a rule is restated for a chosen subject: as rules of a profile, which know no subject and no target.
use Rattle.std.specs.Prelude.{◌≡◌, Bool, true, false, not, ◌&&◌, ◌==◌, List, [], map, None, is_some, if◌then◌else◌}
use Rattle.std.specs.List.{flat_map, list_any}
use Rattle.names.specs.declared.permissions.Permission.{Permission}
use Rattle.names.specs.declared.permissions.Permission.TheVariants.{Append, Link}
use Rattle.names.specs.declared.permissions.Perms.{Perms}
use Rattle.names.specs.Permissions.{all_permissions, conflicts, has, only, set_of}
use Rattle.rule_globs.specs.Rules.{RuleValue}
use Rattle.rule_globs.specs.Tokens.{Token}
use Rattle.apparmor_rules.specs.declared.shape.RuleShape.{RuleShape}
use Rattle.apparmor_rules.specs.declared.subject.Subject.{Subject}
use Rattle.apparmor_rules.specs.SubjectRules.{Priority, SubjectPath, SubjectRule, read, unread}
use Rattle.apparmor_rules.specs.Subjects.{applies_to}

-- ---- what of a rule decides how it is restated

abbrev pub is_read : SubjectPath → Bool
is_read (read paths) = true
is_read (unread text) = false

abbrev pub has_priority : Priority → Bool
has_priority priority = not (priority.size == 0)

abbrev pub shape_of : SubjectRule → RuleShape
shape_of rule = record {
  kind = rule.kind;
  applies_to = rule.applies_to;
  perms = rule.perms;
  has_target = is_some rule.target;
  is_read = is_read rule.path;
  has_priority = has_priority rule.priority;
}

abbrev pub has_some : Perms → Bool
has_some perms = list_any (has perms) all_permissions

abbrev pub without : Permission → Perms → Perms
without q perms = set_of (λ p. has perms p && not (has (only q) p))

-- link is left out where it is bound to a target: a restated rule would apply to every link
abbrev pub restated_perms : Perms → Bool → Perms
restated_perms perms has_target = if has_target then without Link perms else perms

-- Letters that a rule may have, by which it holds the same: append is left out where write is, since a rule with w holds it.
abbrev pub fitting_letters : Perms → Perms
fitting_letters perms = if conflicts perms then without Append perms else perms

abbrev pub loses_link : RuleShape → Bool
loses_link shape = shape.has_target && has shape.perms Link

-- Its path was read, and its priority is 0, since restated rules have none.
abbrev pub can_be_said : RuleShape → Bool
can_be_said shape = shape.is_read && not shape.has_priority

-- the rule applies to the chosen subject, can be said, and a permission is left
abbrev pub is_restated : Subject → RuleShape → Bool
is_restated chosen shape =
    applies_to shape.applies_to chosen && can_be_said shape && has_some (restated_perms shape.perms shape.has_target)

-- its path was read, it has no target and no priority, and it holds something
pub record IsPlain (rule : SubjectRule) : Type 0 where
  pub path : is_read rule.path ≡ true
  pub priority : has_priority rule.priority ≡ false
  pub target : rule.target ≡ None
  pub perms : has_some rule.perms ≡ true

-- ---- the rules that it is restated as

abbrev pub restated_paths : SubjectPath → List (List Token)
restated_paths (read paths) = paths
restated_paths (unread text) = []

-- the rule as one of a profile, with one of its paths
abbrev pub with_path : SubjectRule → List Token → RuleValue
with_path rule path = record {
  kind = rule.kind;
  perms = fitting_letters (restated_perms rule.perms (is_some rule.target));
  items = path;
}

-- one rule for each path that it was read as, or none at all
abbrev pub restated : Subject → SubjectRule → List RuleValue
restated chosen rule =
    if is_restated chosen (shape_of rule) then map (with_path rule) (restated_paths rule.path) else []

abbrev pub restated_all : Subject → List SubjectRule → List RuleValue
restated_all chosen rules = flat_map (restated chosen) rules
