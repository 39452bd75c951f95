-- More rules than a profile may have, of which only the first are known.
use Rattle.std.proofs.Common.{◌≡◌, ℕ, zero, suc, Bool, List, [], ◌∷◌, ◌++◌, Option, Some, None, Err, refl, sym, ap, ◌∙◌, subst}
use Rattle.std.specs.Prelude.{slice_get, option_map}
use Rattle.apparmor_text.specs.Parts.{ItemValue}
use Rattle.import_spans.specs.declared.context.Choice.{Choice}
use Rattle.import_spans.specs.declared.span.Span.{Span}
use Rattle.import_spans.specs.CutStates.{at_start}
use Rattle.apparmor_variables.specs.Variables.{Variable}
use Rattle.rule_profile.specs.Limits.{most_rules}
use Rattle.import_profile.specs.AddedRules.{added_rules}
use Rattle.import_profile.specs.Faults.{ImportFault, too_many_rules}
use Rattle.import_profile.specs.FileRules.{rules_in}
use Rattle.import_profile.specs.Imports.{Outcome, counted_outcome, chosen_outcome}
use Rattle.import_profile.specs.Restated.{PlacedValue, cut_for, all_rules, restated_rules}
use Rattle.import_profile.specs.Told.{Fails, import_fault_value}
use Rattle.import_profile.specs.declared.fault.ImportFailure.{ImportFailure}
use Rattle.import_profile.specs.declared.fault.ImportFailure.TheVariants as failures
use Rattle.import_profile.specs.inner.GatheredRules.{AreTooMany, one_too_many}
use Rattle.import_profile.proofs.Gathers.{restated_both}

still_there : {A : Type 0} (xs ys : List A) (n : ℕ) (x : A) → slice_get xs n ≡ Some x → slice_get (xs ++ ys) n ≡ Some x
still_there [] ys n x e = absurd cc
still_there (y ∷ xs) ys zero x e = e
still_there (y ∷ xs) ys (suc n) x e = still_there xs ys n x e

-- the fault of the rule that is one too many
abbrev told_of : Option PlacedValue → Option ImportFault
told_of o = option_map too_many_rules (option_map (λ (rule : PlacedValue). rule.place) o)

-- if one is too many, this still holds when others follow
pub too_many_with : (now later : List PlacedValue) (fault : ImportFault) → AreTooMany now fault → AreTooMany (now ++ later) fault
too_many_with now later fault h = at (slice_get now most_rules) refl h
  where
    at : (o : Option PlacedValue) → slice_get now most_rules ≡ o → told_of o ≡ Some fault → AreTooMany (now ++ later) fault
    at None is e = absurd cc
    at (Some rule) is e = ap told_of (still_there now later most_rules rule is) ∙ e

-- if what was gathered is too many, all that there is is, too
pub too_many_before : (now later all : List PlacedValue) (place : ℕ) → now ++ later ≡ all → one_too_many now ≡ Some place →
    AreTooMany all (too_many_rules place)
too_many_before now later all place same e =
    subst (λ (l : List PlacedValue). AreTooMany l (too_many_rules place)) same
    (too_many_with now later (too_many_rules place) (ap (option_map too_many_rules) e))

-- the outcome in that case
counted_by : (fault : ImportFault) (otherwise : Outcome) (o : Option PlacedValue) → told_of o ≡ Some fault
    → ◌≡◌ {A = Outcome} (Err fault) (elim o [ Some rule ↦ Err (too_many_rules rule.place) | None ↦ otherwise ])
counted_by fault otherwise None e = absurd cc
counted_by fault otherwise (Some rule) e = cc

pub counted_too_many : (strict : Bool) (name : List ℕ) (spans : List Span) (rules : List PlacedValue) (fault : ImportFault) →
    AreTooMany rules fault
    → Err fault ≡ counted_outcome strict name spans rules
counted_too_many strict name spans rules fault h = counted_by fault _ (slice_get rules most_rules) h

-- and that of the chosen profile in that case
pub chosen_too_many : (strict : Bool) (name : List ℕ) (variables : List Variable) (choice : Choice) (items : List ItemValue)
    (lists : List Variable)
    (failure : ImportFailure) → lists ≡ variables
    → Fails (AreTooMany (restated_rules choice.subject (rules_in lists choice.subject items (at_start choice)))) failure
    → Fails (λ fault. Err fault ≡ chosen_outcome strict variables choice name items) failure
chosen_too_many strict name variables choice items lists failures.NoMemory is h = tt
chosen_too_many strict name variables choice items lists (failures.At fault) is h =
    let chosen = choice.subject in
    let value = import_fault_value fault in
    let end = cut_for variables choice items in
    let first = rules_in variables chosen items (at_start choice) in
    let added = added_rules end.changes_profile end.has_hat in
    let here = subst (λ (v : List Variable). AreTooMany (restated_rules chosen (rules_in v chosen items (at_start choice))) value) is h in
    counted_too_many strict name end.spans (restated_rules chosen (all_rules variables choice items)) value
    (subst (λ (l : List PlacedValue). AreTooMany l value) (sym (restated_both chosen first added))
    (too_many_with (restated_rules chosen first) (restated_rules chosen added) value here))
