-- The rules of an imported profile: what the rules of a text, and those that AppArmor adds, are restated as for the chosen subject.
use Rattle.std.specs.Prelude.{ℕ, List, ◌++◌, map}
use Rattle.std.specs.List.{flat_map}
use Rattle.apparmor_text.specs.Parts.{ItemValue}
use Rattle.import_spans.specs.declared.context.Choice.{Choice}
use Rattle.import_spans.specs.CutStates.{CutState, at_start}
use Rattle.import_spans.specs.Cuts.{cut_of}
use Rattle.apparmor_variables.specs.Variables.{Variable}
use Rattle.rule_globs.specs.Rules.{RuleValue}
use Rattle.apparmor_rules.specs.declared.subject.Subject.{Subject}
use Rattle.apparmor_rules.specs.Restatement.{restated}
use Rattle.import_profile.specs.FileRules.{PlacedRule, item_reading, rules_in}
use Rattle.import_profile.specs.AddedRules.{added_rules}

-- how the text is cut for the chosen profile
abbrev pub cut_for : List Variable → Choice → List ItemValue → CutState
cut_for variables choice items = cut_of (item_reading variables choice.subject) choice items

-- all rules of the chosen profile
abbrev pub all_rules : List Variable → Choice → List ItemValue → List PlacedRule
all_rules variables choice items =
    rules_in variables choice.subject items (at_start choice)
    ++ added_rules (cut_for variables choice items).changes_profile (cut_for variables choice items).has_hat

-- a rule as restated, and the place of what it comes from
pub record PlacedValue : Type 0 where
  pub place : ℕ
  pub value : RuleValue

abbrev pub restated_at : Subject → PlacedRule → List PlacedValue
restated_at chosen r = map (λ value. record { place = r.place; value = value }) (restated chosen r.rule)

abbrev pub restated_rules : Subject → List PlacedRule → List PlacedValue
restated_rules chosen rules = flat_map (restated_at chosen) rules
