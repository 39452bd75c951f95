-- An import, and AppArmor's own rules and mode that it is made of.
use Rattle.std.specs.Prelude.{◌≡◌, ℕ, suc, ◌==◌, List, [], ◌∷◌, map, slice_get, Some, None, option_map, Bool, true, false, if◌then◌else◌}
use Rattle.apparmor_text.specs.declared.part.ItemKind.{ItemKind}
use Rattle.apparmor_text.specs.declared.part.ItemKind.TheVariants as items
use Rattle.apparmor_text.specs.Parts.{ItemValue}
use Rattle.apparmor_text.specs.Texts.{ReadsItems}
use Rattle.import_spans.specs.Modes.{mode_of_head}
use Rattle.import_scope.specs.Scopes.{Head, at_start}
use Rattle.import_scope.specs.FirstFaults.{FirstFault, variables_within}
use Rattle.import_profile.specs.declared.options.ImportOptions.{ImportOptions}
use Rattle.import_profile.specs.FileRules.{PlacedRule}
use Rattle.import_profile.specs.Imports.{ImportValue, chosen_number, choice_of, declared_by, items_seen}
use Rattle.import_profile.specs.Restated.{all_rules, cut_for}
use Rattle.apparmor_variables.specs.Variables.{Variable}
use Rattle.apparmor_rules.specs.declared.mode.Mode.{Mode}
use Rattle.apparmor_rules.specs.declared.mode.Mode.TheVariants.{Enforcing}
use Rattle.apparmor_rules.specs.SubjectRules.{SubjectRule}

abbrev pub opens_profile : ItemKind → Bool
opens_profile items.Profile = true
opens_profile items.Hat = true
opens_profile _ = false

-- the mode of the profile with this number, where `heads` profiles began before
abbrev pub mode_from : ℕ → ℕ → List ItemValue → Mode
mode_from number heads [] = Enforcing
mode_from number heads (item ∷ items) =
    if opens_profile item.kind then (if heads == number then mode_of_head item.parts else mode_from number (suc heads) items)
    else mode_from number heads items

abbrev pub plain_rules : List PlacedRule → List SubjectRule
plain_rules rules = map (λ r. r.rule) rules

-- the variables that are in effect in the chosen profile
abbrev pub variables_of : ImportOptions → List ItemValue → Head → List Variable
variables_of options items head = variables_within (declared_by options items).declared head.name

-- This is the import of the text, and these are the chosen profile's rules, including those that AppArmor adds, and its mode.
pub record IsImported (options : ImportOptions) (text : List ℕ) (value : ImportValue) (rules : List SubjectRule)
    (mode : Mode) : Type 0 where
  pub items : List ItemValue
  pub number : ℕ
  pub head : Head
  pub read : ReadsItems text items None
  pub faultless : FirstFault (at_start options.defines.now) (items_seen options items) None
  pub chosen : chosen_number (option_map (λ name. name.now) options.profile) (declared_by options items).profiles
      ≡ Some number
  pub found : slice_get (declared_by options items).profiles number ≡ Some head
  pub name : value.profile.name ≡ head.name
  pub spans : value.spans
      ≡ (cut_for (variables_within (declared_by options items).declared head.name)
      (choice_of options head number) items).spans
  pub rules_are : rules
      ≡ plain_rules (all_rules (variables_within (declared_by options items).declared head.name)
      (choice_of options head number) items)
  pub mode_is : mode ≡ mode_from number 0 items
