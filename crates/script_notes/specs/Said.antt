-- What a law says of notes: that what is said of the words of a line that is no command is so.
use Rattle.std.specs.Prelude.{◌≡◌, ◌<◌, ◌-◌, ℕ, List, ◌∷◌, ◌++◌, Some, None, codes, length, slice_get}
use Rattle.names.specs.Permissions.{perms_of}
use Rattle.script_notes.specs.Forms.{Misfit, form_of, misfit_at}
use Rattle.script_notes.specs.declared.line.Says.{Says}
use Rattle.script_notes.specs.declared.line.Says.TheVariants.{NoCommand}
use Rattle.trace_script.specs.Script.{words_of}
use Rattle.trace_steps.specs.StepScript.{number_of, session_of}

-- By what lines say, by their words; by the forms of commands, and what is said where none begins with the first word; and by the
-- first word and those after it.
pub data IsSo (kind : List (List ℕ) → Says) (forms : List (List ℕ)) (unknown word : List ℕ) (words : List (List ℕ)) : Misfit → Type 0 where
  -- whatever follows this word, it is no command
  begins_none : ((more : List (List ℕ)) → kind (word ∷ more) ≡ NoCommand) → IsSo kind forms unknown word words (misfit_at 0 unknown)
  has_too_few : (form : List ℕ) → form_of forms word ≡ Some form → length (word ∷ words) < length (words_of form) →
      IsSo kind forms unknown word words (misfit_at 0 (codes "too few words: " ++ form))
  has_too_many : (form : List ℕ) → form_of forms word ≡ Some form → length (words_of form) < length (word ∷ words) →
      IsSo kind forms unknown word words (misfit_at (length (words_of form)) (codes "too many words: " ++ form))
  has_no_session : (form second : List ℕ) → form_of forms word ≡ Some form → slice_get (word ∷ words) 1 ≡ Some second →
      session_of second ≡ None → IsSo kind forms unknown word words
      (misfit_at 1 (codes "the second word is no session, which is a digit from 1 to 9: " ++ form))
  has_no_perms : (form last : List ℕ) → form_of forms word ≡ Some form →
      slice_get (word ∷ words) (length (word ∷ words) - 1) ≡ Some last → perms_of last ≡ None →
      IsSo kind forms unknown word words (misfit_at (length (word ∷ words) - 1) (codes "the last word is no permissions: " ++ form))
  has_no_number : (form last : List ℕ) → form_of forms word ≡ Some form →
      slice_get (word ∷ words) (length (word ∷ words) - 1) ≡ Some last → number_of last ≡ None →
      IsSo kind forms unknown word words (misfit_at (length (word ∷ words) - 1) (codes "the last word is no number below 2^64: " ++ form))
