-- An import that results in a profile: which items it is of, and which of their profiles.
use Rattle.std.proofs.Common.{◌≡◌, ℕ, Bool, true, false, List, map, length, Option, Some, None, Ok, Err, refl}
use Rattle.std.specs.Prelude.{slice_get, option_map}
use Rattle.apparmor_text.specs.Parts.{ItemValue}
use Rattle.apparmor_text.specs.Texts.{ReadsItems}
use Rattle.apparmor_words.specs.Steps.{Stop}
use Rattle.import_spans.specs.declared.span.Span.{Span}
use Rattle.import_scope.specs.Scopes as scopes
use Rattle.import_scope.specs.Scopes.{Head, ScopeState, at_start}
use Rattle.import_scope.specs.FirstFaults.{FirstFault, variables_within}
use Rattle.apparmor_variables.specs.Variables.{Variable}
use Rattle.rule_profile.specs.Limits.{most_rules}
use Rattle.import_profile.specs.declared.options.ImportOptions.{ImportOptions}
use Rattle.import_profile.specs.Faults.{which, too_many_rules, not_exact}
use Rattle.import_profile.specs.Restated.{PlacedValue, cut_for, all_rules, restated_rules}
use Rattle.import_profile.specs.Imports.{ImportValue, Outcome, Imports, choice_of, chosen_number, first_change, strict_outcome}
use Rattle.import_profile.specs.Imports.{declared_by, head_outcome, items_seen, origin_of, read_outcome}

-- after all items
abbrev pub end_of : ImportOptions → List ItemValue → ScopeState
end_of options items = declared_by options items

abbrev pub asked : ImportOptions → Option (List ℕ)
asked options = option_map (λ name. name.now) options.profile

-- the variables of the chosen profile
abbrev pub known : ImportOptions → List ItemValue → Head → List Variable
known options items head = variables_within (end_of options items).declared head.name

abbrev pub placed_values : ImportOptions → List ItemValue → ℕ → Head → List PlacedValue
placed_values options items number head =
    restated_rules options.subject (all_rules (known options items head) (choice_of options head number) items)

-- what is imported of the profile with this number and head
abbrev pub import_of : ImportOptions → List ItemValue → ℕ → Head → ImportValue
import_of options items number head = record {
  profile = record { name = head.name; rules = map (λ r. r.value) (placed_values options items number head) };
  origins = map origin_of (placed_values options items number head);
  spans = (cut_for (known options items head) (choice_of options head number) items).spans;
}

pub record Opened (options : ImportOptions) (text : List ℕ) (value : ImportValue) : Type 0 where
  pub items : List ItemValue
  pub number : ℕ
  pub head : Head
  pub read : ReadsItems text items None
  pub faultless : FirstFault (at_start options.defines.now) (items_seen options items) None
  pub chosen : chosen_number (asked options) (end_of options items).profiles ≡ Some number
  pub found : slice_get (end_of options items).profiles number ≡ Some head
  pub is : value ≡ import_of options items number head
  pub few : slice_get (placed_values options items number head) most_rules ≡ None

-- ---- outcomes that are no fault

abbrev unchanged : ImportValue → Option Span → Outcome
unchanged made o = elim o [ None ↦ Ok made | Some span ↦ Err (not_exact span.start) ]

by_change : (made value : ImportValue) (o : Option Span) → Ok value ≡ unchanged made o → value ≡ made
by_change made value None e = cc
by_change made value (Some span) e = absurd cc

by_strict : (strict : Bool) (made value : ImportValue) → Ok value ≡ strict_outcome strict made → value ≡ made
by_strict false made value e = cc
by_strict true made value e = by_change made value (first_change made.spans) e

abbrev counted : Bool → ImportValue → Option PlacedValue → Outcome
counted strict made o = elim o [ Some rule ↦ Err (too_many_rules rule.place) | None ↦ strict_outcome strict made ]

by_count : (strict : Bool) (made value : ImportValue) (o : Option PlacedValue) → Ok value ≡ counted strict made o →
    (o ≡ None) × (value ≡ made)
by_count strict made value None e = (refl, by_strict strict made value e)
by_count strict made value (Some rule) e = absurd cc

module _ (options : ImportOptions) (text : List ℕ) (value : ImportValue) (items : List ItemValue) (read : ReadsItems text items None)
    (faultless : FirstFault (at_start options.defines.now) (items_seen options items) None) where
  abbrev s : ScopeState
  s = end_of options items

  by_head : (number : ℕ) → chosen_number (asked options) s.profiles ≡ Some number → (o : Option Head) → slice_get s.profiles number ≡ o
      → Ok value ≡ head_outcome options s items number o → Opened options text value
  by_head number chosen None found e = absurd cc
  by_head number chosen (Some head) found e =
      let both = by_count options.strict (import_of options items number head) value
      (slice_get (placed_values options items number head) most_rules) e in
      record {
        items = items;
        number = number;
        head = head;
        read = read;
        faultless = faultless;
        chosen = chosen;
        found = found;
        is =
            both.1;
        few = both.0;
      }

  abbrev of_number : Option ℕ → Outcome
  of_number o = elim o [
    | None ↦ Err (which (map (λ head. head.name) s.profiles))
    | Some number ↦ head_outcome options s items number (slice_get s.profiles number)
  ]

  by_number : (o : Option ℕ) → chosen_number (asked options) s.profiles ≡ o → Ok value ≡ of_number o → Opened options text value
  by_number None chosen e = absurd cc
  by_number (Some number) chosen e = by_head number chosen (slice_get s.profiles number) refl e

by_faults : (options : ImportOptions) (text : List ℕ) (value : ImportValue) (items : List ItemValue) (fault : Option scopes.Fault)
    (end : Option Stop)
    → ReadsItems text items end → FirstFault (at_start options.defines.now) (items_seen options items) fault
    → Ok value ≡ read_outcome options (length text) items fault end → Opened options text value
by_faults options text value items (Some fault) end read first e = absurd cc
by_faults options text value items None (Some stop) read first e = absurd cc
by_faults options text value items None None read first e =
    by_number options text value items read first (chosen_number (asked options) (end_of options items).profiles) refl e

pub opened : (options : ImportOptions) (text : List ℕ) (value : ImportValue) → Imports options text (Ok value) → Opened options text value
opened options text value i = by_faults options text value i.items i.fault i.end i.read i.first i.is
