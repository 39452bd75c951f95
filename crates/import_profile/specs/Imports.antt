-- The outcome of an import of a flattened profile text.
use Rattle.std.specs.Prelude.{◌≡◌, ℕ, suc, List, [], ◌∷◌, length, map, find, not, bytes_eq, slice_get, Result, Ok, Err, Option, Some, None}
use Rattle.std.specs.Prelude.{option_map, Bool, true, false, if◌then◌else◌}
use Rattle.apparmor_text.specs.Parts.{ItemValue}
use Rattle.apparmor_text.specs.Texts.{ReadsItems}
use Rattle.apparmor_words.specs.Steps.{Stop}
use Rattle.import_spans.specs.declared.context.Choice.{Choice}
use Rattle.import_spans.specs.declared.span.Span.{Span}
use Rattle.import_spans.specs.declared.span.SpanKind.{SpanKind}
use Rattle.import_spans.specs.declared.span.SpanKind.TheVariants.{Kept, Blank, Told}
use Rattle.import_scope.specs.Scopes as scopes
use Rattle.import_scope.specs.Scopes.{Head, ScopeState, at_start, behind_all}
use Rattle.import_scope.specs.FirstFaults.{FirstFault, variables_within}
use Rattle.import_scope.specs.Overrides.{items_given}
use Rattle.apparmor_variables.specs.Variables.{Variable}
use Rattle.rule_globs.specs.Rules.{ProfileValue}
use Rattle.rule_profile.specs.Limits.{most_rules}
use Rattle.rule_profile.specs.declared.profile.Span.{Span as RuleSpan}
use Rattle.apparmor_rules.specs.declared.effect.Extent.TheVariants.{Exact, Wider, Narrower}
use Rattle.apparmor_rules.specs.declared.effect.Extent.{Extent}
use Rattle.import_profile.specs.declared.options.ImportOptions.{ImportOptions}
use Rattle.import_profile.specs.Faults.{ImportFault, stop_fault, scope_fault, which, too_many_rules, not_exact}
use Rattle.import_profile.specs.Restated.{PlacedValue, cut_for, all_rules, restated_rules}

-- the profile; where in the text each of its rules comes from; and the spans of the text: which parts are kept, blank, or reported
pub record ImportValue : Type 0 where
  pub profile : ProfileValue
  pub origins : List RuleSpan
  pub spans : List Span

abbrev pub Outcome : Type 0
Outcome = Result ImportValue ImportFault

-- ---- the chosen profile

-- if no name is requested, any fits
abbrev pub fits : Option (List ℕ) → Head → Bool
fits None head = true
fits (Some name) head = bytes_eq head.name name

-- the numbers of those that fit, from this number on
abbrev pub fitting : Option (List ℕ) → ℕ → List Head → List ℕ
fitting asked number [] = []
fitting asked number (head ∷ heads) =
    if fits asked head then number ∷ fitting asked (suc number) heads else fitting asked (suc number) heads

-- exactly one has to fit
abbrev pub only_one : List ℕ → Option ℕ
only_one (number ∷ []) = Some number
only_one _ = None

abbrev pub chosen_number : Option (List ℕ) → List Head → Option ℕ
chosen_number asked heads = only_one (fitting asked 0 heads)

-- ---- of the chosen profile

abbrev pub is_exact : Extent → Bool
is_exact Exact = true
is_exact Wider = false
is_exact Narrower = false

-- something changes for the chosen subject
abbrev pub changes_something : SpanKind → Bool
changes_something Kept = false
changes_something Blank = false
changes_something (Told told) = not (is_exact told.effect.on_chosen)

-- the first span that changes something for the chosen subject
abbrev pub first_change : List Span → Option Span
first_change spans = find (λ span. changes_something span.kind) spans

-- a strict import allows no change for the chosen subject
abbrev pub strict_outcome : Bool → ImportValue → Outcome
strict_outcome false value = Ok value
strict_outcome true value = elim (first_change value.spans) [
  | None ↦ Ok value
  | Some span ↦ Err (not_exact span.start)
]

-- the place of what a rule comes from: nothing of the text, where that begins
abbrev pub origin_of : PlacedValue → RuleSpan
origin_of rule = record { start = rule.place; end = rule.place }

abbrev pub counted_outcome : Bool → List ℕ → List Span → List PlacedValue → Outcome
counted_outcome strict name spans rules = elim (slice_get rules most_rules) [
  | Some rule ↦ Err (too_many_rules rule.place)
  | None ↦ strict_outcome strict (record {
    profile = record { name = name; rules = map (λ r. r.value) rules };
    origins = map origin_of rules;
    spans = spans;
  })
]

abbrev pub chosen_outcome : Bool → List Variable → Choice → List ℕ → List ItemValue → Outcome
chosen_outcome strict variables choice name items =
    counted_outcome strict name (cut_for variables choice items).spans
    (restated_rules choice.subject (all_rules variables choice items))

-- ---- of the text

-- the choice of the profile with this number
abbrev pub choice_of : ImportOptions → Head → ℕ → Choice
choice_of options head number = record { subject = options.subject; profile = number; outermost = head.outermost }

abbrev pub head_outcome : ImportOptions → ScopeState → List ItemValue → ℕ → Option Head → Outcome
head_outcome options s items number None = Err (which (map (λ head. head.name) s.profiles))
head_outcome options s items number (Some head) =
    chosen_outcome options.strict (variables_within s.declared head.name) (choice_of options head number) head.name items

-- of a text with these items, after which this is declared
abbrev pub items_outcome : ImportOptions → ScopeState → List ItemValue → Outcome
items_outcome options s items = elim (chosen_number (option_map (λ name. name.now) options.profile) s.profiles) [
  | None ↦ Err (which (map (λ head. head.name) s.profiles))
  | Some number ↦ head_outcome options s items number (slice_get s.profiles number)
]

-- the items of the text as they declare variables and name profiles
abbrev pub items_seen : ImportOptions → List ItemValue → List ItemValue
items_seen options items = items_given options.overrides options.defines.now items

-- what the text has declared, where it has no fault
abbrev pub declared_by : ImportOptions → List ItemValue → ScopeState
declared_by options items = behind_all (at_start options.defines.now) (items_seen options items)

-- A fault in what the items say takes precedence over one that reading stopped at.
abbrev pub read_outcome : ImportOptions → ℕ → List ItemValue → Option scopes.Fault → Option Stop → Outcome
read_outcome options all items (Some fault) end = Err (scope_fault fault)
read_outcome options all items None (Some stop) = Err (stop_fault all stop)
read_outcome options all items None None = items_outcome options (declared_by options items) items

-- the outcome of an import of the text
pub record Imports (options : ImportOptions) (text : List ℕ) (outcome : Outcome) : Type 0 where
  pub items : List ItemValue
  pub end : Option Stop
  pub fault : Option scopes.Fault
  pub read : ReadsItems text items end
  pub first : FirstFault (at_start options.defines.now) (items_seen options items) fault
  pub is : outcome ≡ read_outcome options (length text) items fault end
