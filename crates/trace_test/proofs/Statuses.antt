-- The statuses of tests.
use Rattle.std.proofs.Common.{◌≡◌, ℕ, Bool, true, false, cond, List, [], ◌∷◌, Option, Some, None, refl, sym, ap, ◌∙◌}
use Rattle.std.specs.List.{list_all}
use Rattle.glob_automaton.specs.Automata.{StateLimit}
use Rattle.mediation.specs.History.{History}
use Rattle.trace_report.specs.declared.status.Status.{Status}
use Rattle.trace_report.specs.declared.status.Status.TheVariants.{Done, Unmet, Refused}
use Rattle.trace_test.specs.declared.options.TestOptions.{TestOptions}
use Rattle.trace_test.specs.Expectations.{Expectation, expectations, holds}
use Rattle.trace_test.specs.TestOutput.{tested_output, tested_status}
use Rattle.test_script.specs.TestScript.{TestCommand}

not_done : (es : List Expectation) → list_all holds es ≡ false → tested_status es ≡ Done → ⊥
not_done [] all e = cc
not_done (x ∷ es) all e = let h : Unmet ≡ Done = sym (ap (λ b. cond b Done Unmet) all) ∙ e in cc

not_unmet : (es : List Expectation) → (es ≡ [] → ⊥) → list_all holds es ≡ true → tested_status es ≡ Unmet → ⊥
not_unmet [] some all e = some refl
not_unmet (x ∷ es) some all e = let h : Done ≡ Unmet = sym (ap (λ b. cond b Done Unmet) all) ∙ e in cc

not_refused : (es : List Expectation) → tested_status es ≡ Refused → ⊥
not_refused [] e = cc
not_refused (x ∷ es) e = by (list_all holds (x ∷ es)) e
  where
    by : (b : Bool) → cond b Done Unmet ≡ Refused → ⊥
    by true e = cc
    by false e = cc

module _ (options : TestOptions) (limit : StateLimit) (history : History) (commands : List TestCommand) where
  abbrev status_of : Option ℕ → Status
  status_of stopped = (tested_output options limit history commands stopped).status

  pub failed_as_done : (stopped : Option ℕ) → list_all holds (expectations limit history commands) ≡ false →
      status_of stopped ≡ Done → ⊥
  failed_as_done None all e = not_done (expectations limit history commands) all e
  failed_as_done (Some number) all e = cc

  pub held_as_unmet : (stopped : Option ℕ) → (expectations limit history commands ≡ [] → ⊥) →
      list_all holds (expectations limit history commands) ≡ true → status_of stopped ≡ Unmet → ⊥
  held_as_unmet None some all e = not_unmet (expectations limit history commands) some all e
  held_as_unmet (Some number) some all e = cc

  pub whole_as_refused : (stopped : Option ℕ) → stopped ≡ None → status_of stopped ≡ Refused → ⊥
  whole_as_refused stopped whole e = not_refused (expectations limit history commands) (sym (ap status_of whole) ∙ e)
