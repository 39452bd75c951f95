-- What is said of the words of a line that is no command is so.
use Rattle.std.proofs.Common.{◌≡◌, ℕ, Bool, true, false, cond, List, ◌∷◌, bytes_eq, codes, Option, Some, None, refl, ap}
use Rattle.std.specs.List.{AllByRecursion}
use Rattle.script_notes.specs.Forms.{why_form, why_words, form_of, change_forms, no_change, no_command as no_command_text}
use Rattle.script_notes.specs.Forms.{step_forms, run_forms, test_forms}
use Rattle.script_notes.specs.Said.{IsSo, begins_none}
use Rattle.script_notes.specs.ScriptLines.{says}
use Rattle.script_notes.specs.declared.line.Says.{Says}
use Rattle.script_notes.specs.declared.line.Says.TheVariants.{NoCommand}
use Rattle.script_notes.proofs.SaidForms.{Cases, case_of, so_misfit}
use Rattle.script_notes.proofs.SaidCommands.{after_keep_says, in_run, in_steps, in_test, keep_cases, run_cases, step_by, step_cases}
use Rattle.script_notes.proofs.SaidCommands.{test_cases}
use Rattle.script_notes.proofs.SaidNone.{BeginsNone, skip, none_begins, run_none, no_comment, step_none, step_run_none, step_own_none}
use Rattle.script_notes.proofs.SaidNone.{after_keep_none, test_none}
use Rattle.trace_script.specs.Script.{LineKind, ignored, is_comment, kind_of_words}

so_of : (kind : List (List ℕ) → Says) (forms : List (List ℕ)) (unknown word : List ℕ) (words : List (List ℕ)) →
    Cases kind forms → (AllByRecursion (BeginsNone word) forms → (more : List (List ℕ)) → kind (word ∷ more) ≡ NoCommand) →
    kind (word ∷ words) ≡ NoCommand → IsSo kind forms unknown word words (why_words unknown forms (word ∷ words))
so_of kind forms unknown word words cases none h = by (form_of forms word) refl
  where
    by : (form : Option (List ℕ)) → form_of forms word ≡ form → IsSo kind forms unknown word words (why_form unknown form (word ∷ words))
    by None e = begins_none (λ more. none (none_begins word forms e) more)
    by (Some form) e = so_misfit kind forms unknown word words form e (case_of kind word forms cases form e words h)

pub run_so : (word : List ℕ) (words : List (List ℕ)) → in_run (word ∷ words) ≡ NoCommand →
    IsSo in_run run_forms no_command_text word words (why_words no_command_text run_forms (word ∷ words))
run_so word words h =
    let comment = no_comment word (kind_of_words (word ∷ words)) h in
    so_of in_run run_forms no_command_text word words run_cases (λ none more. ap says (skip _ comment (run_none word none more))) h

step_no_comment : (words : List (List ℕ)) (word : List ℕ) (kind : LineKind) →
    says (step_by words (cond (is_comment word) ignored kind)) ≡ NoCommand → is_comment word ≡ false
step_no_comment words word kind h = by (is_comment word) h
  where
    by : (b : Bool) → says (step_by words (cond b ignored kind)) ≡ NoCommand → b ≡ false
    by true h = cc
    by false h = refl

pub step_so : (word : List ℕ) (words : List (List ℕ)) → bytes_eq (codes "keep") word ≡ false → in_steps (word ∷ words) ≡ NoCommand →
    IsSo in_steps step_forms no_command_text word words (why_words no_command_text step_forms (word ∷ words))
step_so word words keep h =
    let comment = step_no_comment (word ∷ words) word (kind_of_words (word ∷ words)) h in
    so_of in_steps step_forms no_command_text word words step_cases
    (λ none more. step_none word more (step_run_none word none more) comment (skip _ keep (step_own_none word none more))) h

pub keep_so : (word : List ℕ) (words : List (List ℕ)) → after_keep_says (word ∷ words) ≡ NoCommand →
    IsSo after_keep_says change_forms no_change word words (why_words no_change change_forms (word ∷ words))
keep_so word words h =
    so_of after_keep_says change_forms no_change word words keep_cases (λ none more. after_keep_none word none more) h

pub test_so : (number : ℕ) (word : List ℕ) (words : List (List ℕ)) → in_test number (word ∷ words) ≡ NoCommand →
    IsSo (in_test number) test_forms no_command_text word words (why_words no_command_text test_forms (word ∷ words))
test_so number word words h =
    so_of (in_test number) test_forms no_command_text word words (test_cases number) (λ none more. test_none number word none more) h
