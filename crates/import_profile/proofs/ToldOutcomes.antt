-- Outcomes that are reported.
use Rattle.std.proofs.Common.{◌≡◌, ℕ, Bool, List, ◌++◌, length, Option, Some, None, Result, Ok, Err, sym, ap, ◌∙◌, subst}
use Rattle.std.specs.Result.{IsErrAnd}
use Rattle.apparmor_text.specs.Parts.{ItemValue}
use Rattle.import_spans.specs.declared.context.Choice.{Choice}
use Rattle.import_spans.specs.declared.span.Span.{Span}
use Rattle.import_spans.specs.CutStates.{CutState, at_start}
use Rattle.import_spans.specs.Cuts.{cut_items, finished}
use Rattle.apparmor_variables.specs.Variables.{Variable}
use Rattle.import_profile.specs.AddedRules.{added_rules}
use Rattle.import_profile.specs.FileRules.{item_reading, rules_in}
use Rattle.import_profile.specs.Restated.{PlacedValue, cut_for, restated_rules}
use Rattle.import_profile.proofs.Gathers.{all_restated}
use Rattle.apparmor_words.specs.Steps.{Stop}
use Rattle.import_scope.specs.Scopes as scopes
use Rattle.import_profile.specs.declared.options.ImportOptions.{ImportOptions}
use Rattle.import_profile.specs.AllImports.{IsFaultless, IsTextFault, TextValue, text_fault}
use Rattle.import_profile.specs.Faults.{ImportFault}
use Rattle.import_profile.specs.Imports.{Imports, Outcome, counted_outcome, chosen_outcome, declared_by, items_outcome, read_outcome}
use Rattle.import_profile.specs.Told.{Fails, Tells, import_fault_value}
use Rattle.import_profile.specs.declared.import.Imported.{Imported}
use Rattle.import_profile.specs.declared.fault.ImportFailure.{ImportFailure}
use Rattle.import_profile.specs.declared.fault.ImportFailure.TheVariants as failures

pub tells_same : (one other : Outcome) (r : Result Imported ImportFailure) → one ≡ other → Tells (λ outcome. outcome ≡ one) r →
    Tells (λ outcome. outcome ≡ other) r
tells_same one other (Ok imported) e h = h ∙ e
tells_same one other (Err (failures.At fault)) e h = h ∙ e
tells_same one other (Err failures.NoMemory) e h = tt

pub tells_each : {P Q : Outcome → Type 0} (r : Result Imported ImportFailure) → ((outcome : Outcome) → P outcome → Q outcome) →
    Tells P r → Tells Q r
tells_each (Ok imported) f h = f _ h
tells_each (Err (failures.At fault)) f h = f _ h
tells_each (Err failures.NoMemory) f h = tt

-- a failure that is passed on
pub tells_passed : (one : Outcome) (r : Result Imported ImportFailure) (failure : ImportFailure) → IsErrAnd r (λ told. told ≡ failure)
    → Fails (λ fault. Err fault ≡ one) failure → Tells (λ outcome. outcome ≡ one) r
tells_passed one (Ok imported) failure is h = absurd is
tells_passed one (Err told) failure is h = subst (Fails (λ fault. Err fault ≡ one)) (sym is) h

-- the chosen profile's outcome, by what was gathered
pub chosen_same : (strict : Bool) (name : List ℕ) (variables : List Variable) (choice : Choice) (items : List ItemValue)
    (lists : List Variable) (cut : CutState)
    (spans : List Span) (change hat : Option ℕ) (rules new : List PlacedValue)
    → lists ≡ variables
    → cut ≡ cut_items (item_reading lists choice.subject) items (at_start choice)
    → rules ≡ restated_rules choice.subject (rules_in lists choice.subject items (at_start choice))
    → spans ≡ (finished cut).spans → change ≡ (finished cut).changes_profile → hat ≡ (finished cut).has_hat
    → new ≡ rules ++ restated_rules choice.subject (added_rules change hat)
    → counted_outcome strict name spans new ≡ chosen_outcome strict variables choice name items
chosen_same strict name variables choice items lists cut spans change hat rules new is_lists is_cut is_rules is_spans
    is_change is_hat is_new =
    let chosen = choice.subject in
    let whole = is_cut ∙ ap (λ (v : List Variable). cut_items (item_reading v chosen) items (at_start choice)) is_lists in
    let all_spans = is_spans ∙ ap (λ (s : CutState). (finished s).spans) whole in
    let all_change = is_change ∙ ap (λ (s : CutState). (finished s).changes_profile) whole in
    let all_hat = is_hat ∙ ap (λ (s : CutState). (finished s).has_hat) whole in
    let made = is_rules ∙ ap (λ (v : List Variable). restated_rules chosen (rules_in v chosen items (at_start choice))) is_lists in
    let end = cut_for variables choice items in
    let behind = is_new
    ∙ ap (λ (o : Option ℕ). rules ++ restated_rules chosen (added_rules o hat)) all_change
    ∙ ap (λ (o : Option ℕ). rules ++ restated_rules chosen (added_rules end.changes_profile o)) all_hat in
    let all_new = all_restated chosen (rules_in variables chosen items (at_start choice)) (added_rules end.changes_profile end.has_hat)
    rules new made behind in
    ap (λ (l : List Span). counted_outcome strict name l new) all_spans
    ∙ ap (λ (l : List PlacedValue). counted_outcome strict name end.spans l) all_new

-- ---- texts that are refused

refused_as : (options : ImportOptions) (all : ℕ) (items : List ItemValue) (fault : Option scopes.Fault) (end : Option Stop)
    (f : ImportFault) → text_fault all fault end ≡ Some f → ◌≡◌ {A = Outcome} (Err f) (read_outcome options all items fault end)
refused_as options all items (Some fault) end f e = cc
refused_as options all items None (Some stop) f e = cc
refused_as options all items None None f e = absurd cc

-- a text with a fault isn't imported, whatever is requested
pub import_refused : (options : ImportOptions) (text : List ℕ) (f : ImportFault) → IsTextFault options text f →
    Imports options text (Err f)
import_refused options text f h = record {
  items = h.items;
  end = h.end;
  fault = h.fault;
  read = h.read;
  first = h.first;
  is = refused_as options (length text) h.items h.fault h.end f h.is;
}

fails_so : (options : ImportOptions) (text : List ℕ) (failure : ImportFailure) → Fails (IsTextFault options text) failure →
    Fails (λ fault. Imports options text (Err fault)) failure
fails_so options text failures.NoMemory h = tt
fails_so options text (failures.At fault) h = import_refused options text (import_fault_value fault) h

pub tells_refused : (options : ImportOptions) (text : List ℕ) (r : Result Imported ImportFailure) (failure : ImportFailure) →
    IsErrAnd r (λ told. told ≡ failure) → Fails (IsTextFault options text) failure → Tells (Imports options text) r
tells_refused options text (Ok imported) failure is h = absurd is
tells_refused options text (Err told) failure is h =
    subst (Fails (λ fault. Imports options text (Err fault))) (sym is) (fails_so options text failure h)

-- what is requested of a text without a fault is imported of it
pub import_read : (options : ImportOptions) (text : List ℕ) (value : TextValue) (outcome : Outcome) → IsFaultless options text value →
    outcome ≡ items_outcome options (declared_by options value.items) value.items → Imports options text outcome
import_read options text value outcome h e = record {
  items = value.items;
  end = None;
  fault = None;
  read = h.read;
  first = h.first;
  is = e;
}
