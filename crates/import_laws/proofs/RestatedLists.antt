-- Restated rules, with their places and without.
use Rattle.std.proofs.Common.{◌≡◌, ℕ, List, [], ◌∷◌, ◌++◌, map, refl, ap, ap₂, ◌∙◌}
use Rattle.std.proofs.lemmas.List.{map-append}
use Rattle.rule_globs.specs.Rules.{RuleValue}
use Rattle.apparmor_rules.specs.declared.subject.Subject.{Subject}
use Rattle.apparmor_rules.specs.Restatement.{restated, restated_all}
use Rattle.import_profile.specs.FileRules.{PlacedRule}
use Rattle.import_profile.specs.Restated.{PlacedValue, restated_at, restated_rules}
use Rattle.import_laws.specs.Imported.{plain_rules}

abbrev pub plain_values : List PlacedValue → List RuleValue
plain_values values = map (λ r. r.value) values

without_place : (place : ℕ) (values : List RuleValue) → plain_values (map (λ value. record { place = place; value = value }) values)
    ≡ values
without_place place [] = refl
without_place place (value ∷ values) = ap (λ l. value ∷ l) (without_place place values)

pub without_places : (chosen : Subject) (rules : List PlacedRule) → plain_values (restated_rules chosen rules)
    ≡ restated_all chosen (plain_rules rules)
without_places chosen [] = refl
without_places chosen (r ∷ rules) =
    map-append (λ (v : PlacedValue). v.value) (restated_at chosen r) (restated_rules chosen rules)
    ∙ ap₂ (λ (a b : List RuleValue). a ++ b) (without_place r.place (restated chosen r.rule)) (without_places chosen rules)
