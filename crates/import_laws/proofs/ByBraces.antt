-- The rules of the chosen profile in a text are those that its braces say are directly in it.
use Rattle.std.proofs.Common.{◌≡◌, ℕ, ◌+◌, Bool, cond, List, [], ◌∷◌, ◌++◌, length, refl, sym, ap, ap₂, ◌∙◌}
use Rattle.std.proofs.lemmas.List.{append-nil, length-append}
use Rattle.std.proofs.lemmas.Grind.{flat_map-append}
use Rattle.apparmor_text.specs.Parts.{ItemValue, bytes_of_items, bytes_of_parts}
use Rattle.apparmor_variables.specs.Variables.{Variable}
use Rattle.import_spans.specs.declared.context.Choice.{Choice}
use Rattle.import_spans.specs.declared.context.RuleReading.{RuleReading}
use Rattle.import_spans.specs.CutStates.{CutState, at_start}
use Rattle.import_spans.specs.Cuts.{cut_item, cut_items, is_chosen_rule}
use Rattle.import_spans.specs.Nests.{Nesting, in_none, is_rule_of, nested, nesting_after}
use Rattle.import_spans.proofs.WholeCuts.{all_go, start_is_good}
use Rattle.import_profile.specs.FileRules.{PlacedRule, item_reading, rules_in, subject_rule}
use Rattle.import_laws.specs.RulesInside.{rules_inside}

-- how many bytes were cut
place_of : (reading : ItemValue → RuleReading) (choice : Choice) (before : List ItemValue) →
    (cut_items reading before (at_start choice)).at ≡ length (bytes_of_items before)
place_of reading choice before =
    (all_go ⊥ (λ _. Unit {0}) (λ _ _ _. tt) choice reading before [] (at_start choice) (λ none. absurd none)
    (start_is_good ⊥ (λ _. Unit {0}) (λ _ _ _. tt) choice tt)).0.at

one_deeper : (before : List ItemValue) (item : ItemValue) (n : Nesting) →
    nesting_after (before ++ (item ∷ [])) n ≡ nested item.kind (nesting_after before n)
one_deeper [] item n = refl
one_deeper (first ∷ before) item n = one_deeper before item (nested first.kind n)

one_more : (reading : ItemValue → RuleReading) (before : List ItemValue) (item : ItemValue) (s : CutState) →
    cut_items reading (before ++ (item ∷ [])) s ≡ cut_item (reading item) item (cut_items reading before s)
one_more reading [] item s = refl
one_more reading (first ∷ before) item s = one_more reading before item (cut_item (reading first) first s)

one_longer : (before : List ItemValue) (item : ItemValue) →
    length (bytes_of_items (before ++ (item ∷ []))) ≡ length (bytes_of_items before) + length (bytes_of_parts item.parts)
one_longer before item =
    ap length (flat_map-append (λ (i : ItemValue). bytes_of_parts i.parts) before (item ∷ []))
    ∙ length-append (bytes_of_items before) (bytes_of_items (item ∷ []))
    ∙ ap (λ (bytes : List ℕ). length (bytes_of_items before) + length bytes) (append-nil (bytes_of_parts item.parts))

module _ (variables : List Variable) (choice : Choice)
    (law : (reading : ItemValue → RuleReading) (before : List ItemValue) (item : ItemValue) →
    is_chosen_rule item (cut_items reading before (at_start choice)) ≡ is_rule_of choice.profile before item) where
  abbrev reading : ItemValue → RuleReading
  reading item = item_reading variables choice.subject item

  abbrev after : List ItemValue → CutState
  after before = cut_items reading before (at_start choice)

  rules_from : (before items : List ItemValue) → rules_in variables choice.subject items (after before)
      ≡ rules_inside variables choice.profile (length (bytes_of_items before)) (nesting_after before in_none) items
  rules_from before [] = refl
  rules_from before (item ∷ items) =
      ap₂ (λ (one others : List PlacedRule). one ++ others)
      (ap₂ (λ (b : Bool) (place : ℕ). cond b (record { place = place; rule = subject_rule variables item.parts } ∷ []) [])
      (law reading before item) (place_of reading choice before))
      (ap (rules_in variables choice.subject items) (sym (one_more reading before item (at_start choice)))
      ∙ rules_from (before ++ (item ∷ [])) items
      ∙ ap₂ (λ (place : ℕ) (n : Nesting). rules_inside variables choice.profile place n items) (one_longer before item)
      (one_deeper before item in_none))

  pub rules_by_braces : (items : List ItemValue) →
      rules_in variables choice.subject items (at_start choice) ≡ rules_inside variables choice.profile 0 in_none items
  rules_by_braces items = rules_from [] items
