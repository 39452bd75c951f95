-- What restating for a chosen subject changes for a subject. *Wider*: what is restated may allow what AppArmor refuses to it.
-- *Narrower*: it may refuse what AppArmor allows to it.
use Rattle.std.specs.Prelude.{◌≡◌, ◌≢◌, true, false, not, ◌&&◌, List, All, if◌then◌else◌}
use Rattle.apparmor_rules.specs.declared.effect.Extent.{Extent}
use Rattle.apparmor_rules.specs.declared.effect.Extent.TheVariants.{Exact, Wider, Narrower}
use Rattle.apparmor_rules.specs.declared.effect.Effect.{Effect}
use Rattle.apparmor_rules.specs.declared.mode.Mode.{Mode}
use Rattle.apparmor_rules.specs.declared.mode.Mode.TheVariants.{Enforcing, Permissive, Unconfined}
use Rattle.apparmor_rules.specs.declared.shape.RuleShape.{RuleShape}
use Rattle.apparmor_rules.specs.declared.subject.AppliesTo.TheVariants.{Everybody}
use Rattle.apparmor_rules.specs.declared.subject.Subject.{Subject}
use Rattle.apparmor_rules.specs.Restatement.{has_some, is_restated, loses_link, shape_of}
use Rattle.apparmor_rules.specs.SubjectRules.{SubjectRule}
use Rattle.apparmor_rules.specs.Subjects.{applies_to, other_subject}
use Rattle.names.specs.declared.kind.RuleKind.{RuleKind}
use Rattle.names.specs.declared.kind.RuleKind.TheVariants.{Allow, Deny}

-- something that the rule says to the subject isn't restated
abbrev pub lost : RuleKind → Extent
lost Allow = Narrower
lost Deny = Wider

-- what is restated says something to the subject that the rule doesn't
abbrev pub gained : RuleKind → Extent
gained Allow = Wider
gained Deny = Narrower

-- of a rule that is restated
abbrev pub restated_change : Subject → RuleShape → Extent
restated_change subject shape =
    if not (applies_to shape.applies_to subject) then gained shape.kind
    else if loses_link shape then lost shape.kind
    else Exact

-- of a rule that isn't
abbrev pub left_out_change : Subject → RuleShape → Extent
left_out_change subject shape =
    if applies_to shape.applies_to subject && has_some shape.perms then lost shape.kind else Exact

abbrev pub change : Subject → Subject → RuleShape → Extent
change chosen subject shape =
    if is_restated chosen shape then restated_change subject shape else left_out_change subject shape

abbrev pub effect : Subject → RuleShape → Effect
effect chosen shape = record {
  chosen = chosen;
  on_chosen = change chosen chosen shape;
  on_other = change chosen (other_subject chosen) shape;
}

-- ---- a change by its causes: a qualifier; and a target, a priority or a path that wasn't read

-- as if the qualifier were all that can't be restated
abbrev pub qualifier_alone : RuleShape → RuleShape
qualifier_alone shape = record {
  kind = shape.kind;
  applies_to = shape.applies_to;
  perms = shape.perms;
  has_target = false;
  is_read = true;
  has_priority = false;
}

-- as if there were no qualifier
abbrev pub for_everybody : RuleShape → RuleShape
for_everybody shape = record {
  kind = shape.kind;
  applies_to = Everybody;
  perms = shape.perms;
  has_target = shape.has_target;
  is_read = shape.is_read;
  has_priority = shape.has_priority;
}

-- ---- of a mode

-- Restated rules are enforced.
abbrev pub mode_change : Mode → Extent
mode_change Enforcing = Exact
mode_change Permissive = Narrower
mode_change Unconfined = Narrower

abbrev pub mode_effect : Subject → Mode → Effect
mode_effect chosen mode = record { chosen = chosen; on_chosen = mode_change mode; on_other = mode_change mode }

-- ---- of all rules of a list

abbrev pub AreExact : Subject → Subject → List SubjectRule → Type 0
AreExact chosen subject rules = All (λ rule. change chosen subject (shape_of rule) ≡ Exact) rules

abbrev pub NoneIsWider : Subject → Subject → List SubjectRule → Type 0
NoneIsWider chosen subject rules = All (λ rule. change chosen subject (shape_of rule) ≢ Wider) rules

abbrev pub NoneIsNarrower : Subject → Subject → List SubjectRule → Type 0
NoneIsNarrower chosen subject rules = All (λ rule. change chosen subject (shape_of rule) ≢ Narrower) rules
