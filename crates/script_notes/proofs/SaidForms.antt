-- What is said by a form of words that begin with its command.
use Rattle.std.proofs.Common.{◌≡◌, ℕ, ◌-◌, Bool, true, false, cond, ◌&&◌, nat_lt}
use Rattle.std.proofs.Common.{List, [], ◌∷◌, ◌++◌, length, bytes_eq, codes, Option, Some, None, slice_get, refl, sym, ap, ◌∙◌}
use Rattle.std.proofs.Common.{arith, subst}
use Rattle.std.specs.Option.{is_none}
use Rattle.std.specs.List.{before_first}
use Rattle.std.proofs.lemmas.Bool.{false≢true, ltb-true, ltb-false}
use Rattle.std.proofs.lemmas.Option.{same_Some, none-some}
use Rattle.std.proofs.lemmas.Slice.Eq.{bytes_eq-Decides}
use Rattle.names.specs.Permissions.{perms_of}
use Rattle.names.specs.declared.permissions.Perms.{Perms}
use Rattle.script_notes.specs.Forms.{Misfit, misfit_at, misfit_of, asks_perms, is_no_perms, odd_word, odd_last, is_no_session}
use Rattle.script_notes.specs.Forms.{is_session_word, form_of}
use Rattle.script_notes.specs.Said.{IsSo, has_too_few, has_too_many, has_no_session, has_no_perms, has_no_number}
use Rattle.script_notes.specs.declared.line.Says.{Says}
use Rattle.script_notes.specs.declared.line.Says.TheVariants.{NoCommand}
use Rattle.trace_script.specs.Script.{is_blank, words_of}
use Rattle.trace_steps.specs.StepScript.{number_of}
use Rattle.trace_steps.specs.StepScript.{session_of}

no_session_word : (o : Option (List ℕ)) → is_no_session o ≡ true → (w : List ℕ) × (o ≡ Some w) × (session_of w ≡ None)
no_session_word None e = absurd (false≢true e)
no_session_word (Some w) e = (w, refl, by (session_of w) e)
  where
    by : (s : Option ℕ) → is_none s ≡ true → s ≡ None
    by None e = refl
    by (Some n) e = absurd (false≢true e)

no_perms_word : (o : Option (List ℕ)) → is_no_perms o ≡ true → (w : List ℕ) × (o ≡ Some w) × (perms_of w ≡ None)
no_perms_word None e = absurd (false≢true e)
no_perms_word (Some w) e = (w, refl, by (perms_of w) e)
  where
    by : (s : Option Perms) → is_none s ≡ true → s ≡ None
    by None e = refl
    by (Some n) e = absurd (false≢true e)

and_right : (a b : Bool) → (a && b) ≡ true → b ≡ true
and_right true b e = e
and_right false b e = absurd (false≢true e)

abbrev pub lacks_session : List (List ℕ) → List (List ℕ) → Bool
lacks_session of_form words = is_session_word (slice_get of_form 1) && is_no_session (slice_get words 1)

abbrev pub lacks_perms : List ℕ → List (List ℕ) → Bool
lacks_perms form words = asks_perms form && is_no_perms (slice_get words (length words - 1))

abbrev pub LacksNumber : List (List ℕ) → Type 0
LacksNumber words = (w : List ℕ) × (slice_get words (length words - 1) ≡ Some w) × (number_of w ≡ None)

-- where all else is as the form says, the last word is no number
abbrev pub Last : List ℕ → List (List ℕ) → Type 0
Last form words =
    length words ≡ length (words_of form) → lacks_session (words_of form) words ≡ false → lacks_perms form words ≡ false →
    LacksNumber words

module _ (kind : List (List ℕ) → Says) (forms : List (List ℕ)) (unknown word : List ℕ) (words : List (List ℕ)) where
  abbrev IsSoHere : Misfit → Type 0
  IsSoHere = IsSo kind forms unknown word words

  abbrev all : List (List ℕ)
  all = word ∷ words

  so_by : (b : Bool) (x y : Misfit) → (b ≡ true → IsSoHere x) → (b ≡ false → IsSoHere y) → IsSoHere (cond b x y)
  so_by true x y h k = h refl
  so_by false x y h k = k refl

  module _ (form : List ℕ) (is : form_of forms word ≡ Some form) (last : Last form all) where
    so_last : length all ≡ length (words_of form) → lacks_session (words_of form) all ≡ false → IsSoHere (odd_last form all)
    so_last e f =
        so_by (lacks_perms form all) (misfit_at (length all - 1) (codes "the last word is no permissions: " ++ form))
        (misfit_at (length all - 1) (codes "the last word is no number below 2^64: " ++ form))
        (λ g. no_perms (and_right (asks_perms form) (is_no_perms (slice_get all (length all - 1))) g))
        (λ g. let w = last e f g in has_no_number form w.0 is w.1 w.2)
      where
        no_perms : is_no_perms (slice_get all (length all - 1)) ≡ true →
            IsSoHere (misfit_at (length all - 1) (codes "the last word is no permissions: " ++ form))
        no_perms g = let w = no_perms_word (slice_get all (length all - 1)) g in has_no_perms form w.0 is w.1 w.2

    so_odd : length all ≡ length (words_of form) → IsSoHere (odd_word form (words_of form) all)
    so_odd e =
        so_by (lacks_session (words_of form) all)
        (misfit_at 1 (codes "the second word is no session, which is a digit from 1 to 9: " ++ form)) (odd_last form all)
        (λ g. no_session (and_right (is_session_word (slice_get (words_of form) 1)) (is_no_session (slice_get all 1)) g))
        (λ g. so_last e g)
      where
        no_session : is_no_session (slice_get all 1) ≡ true →
            IsSoHere (misfit_at 1 (codes "the second word is no session, which is a digit from 1 to 9: " ++ form))
        no_session g = let w = no_session_word (slice_get all 1) g in has_no_session form w.0 is w.1 w.2

    pub so_misfit : IsSoHere (misfit_of form (words_of form) all)
    so_misfit =
        so_by (nat_lt (length all) (length (words_of form))) (misfit_at 0 (codes "too few words: " ++ form))
        (cond (nat_lt (length (words_of form)) (length all)) (misfit_at (length (words_of form)) (codes "too many words: " ++ form))
        (odd_word form (words_of form) all))
        (λ g. has_too_few form is (ltb-true (length all) (length (words_of form)) g))
        (λ g. so_by (nat_lt (length (words_of form)) (length all))
        (misfit_at (length (words_of form)) (codes "too many words: " ++ form)) (odd_word form (words_of form) all)
        (λ h. has_too_many form is (ltb-true (length (words_of form)) (length all) h))
        (λ h. so_odd (same g h)))
      where
        same : nat_lt (length all) (length (words_of form)) ≡ false → nat_lt (length (words_of form)) (length all) ≡ false →
            length all ≡ length (words_of form)
        same g h = omega (arith, ltb-false (length all) (length (words_of form)) g, ltb-false (length (words_of form)) (length all) h)

-- ---- forms, one by one

-- by what lines say: for a form, of words that begin with this one
abbrev pub CaseOf : (List (List ℕ) → Says) → List ℕ → List ℕ → Type 0
CaseOf kind word form = (words : List (List ℕ)) → kind (word ∷ words) ≡ NoCommand → Last form (word ∷ words)

-- and with its command
abbrev pub Case : (List (List ℕ) → Says) → List ℕ → Type 0
Case kind form = CaseOf kind (before_first is_blank form) form

infixr 4 ◌also◌
-- of each form of a list
pub data Cases (kind : List (List ℕ) → Says) : List (List ℕ) → Type 0 where
  no_more : Cases kind []
  ◌also◌ : {form : List ℕ} {forms : List (List ℕ)} → Case kind form → Cases kind forms → Cases kind (form ∷ forms)

pub case_of : (kind : List (List ℕ) → Says) (word : List ℕ) (forms : List (List ℕ)) → Cases kind forms →
    (form : List ℕ) → form_of forms word ≡ Some form → CaseOf kind word form
case_of kind word [] cases form e = absurd (none-some form e)
case_of kind word (first ∷ forms) (here also cases) form e =
    by (λ e. case_of kind word forms cases form e) (bytes_eq (before_first is_blank first) word) refl e
  where
    by : (form_of forms word ≡ Some form → CaseOf kind word form) → (b : Bool) →
        bytes_eq (before_first is_blank first) word ≡ b → cond b (Some first) (form_of forms word) ≡ Some form → CaseOf kind word form
    by later true f e =
        let same : before_first is_blank first ≡ word = (bytes_eq-Decides (before_first is_blank first) word).0 f in
        subst (λ form. CaseOf kind word form) (same_Some first form e) (subst (λ word. CaseOf kind word first) same here)
    by later false f e = later e

-- the shapes of forms, by how many words they have, and which of these are tested
module _ (kind : List (List ℕ) → Says) (form : List ℕ) where
  abbrev word : List ℕ
  word = before_first is_blank form

  abbrev Shape : Type 0
  Shape = Case kind form

  pub one_word : length (words_of form) ≡ 1 → (kind (word ∷ []) ≡ NoCommand → ⊥) → Shape
  one_word n t [] h e f g = absurd (t h)
  one_word n t (a ∷ words) h e f g = absurd (omega (arith, e, n))

  pub two_words : length (words_of form) ≡ 2 → ((a : List ℕ) → kind (word ∷ a ∷ []) ≡ NoCommand → ⊥) → Shape
  two_words n t [] h e f g = absurd (omega (arith, e, n))
  two_words n t (a ∷ []) h e f g = absurd (t a h)
  two_words n t (a ∷ b ∷ words) h e f g = absurd (omega (arith, e, n))

  pub three_words : length (words_of form) ≡ 3 → ((a b : List ℕ) → kind (word ∷ a ∷ b ∷ []) ≡ NoCommand → ⊥) → Shape
  three_words n t [] h e f g = absurd (omega (arith, e, n))
  three_words n t (a ∷ []) h e f g = absurd (omega (arith, e, n))
  three_words n t (a ∷ b ∷ []) h e f g = absurd (t a b h)
  three_words n t (a ∷ b ∷ c ∷ words) h e f g = absurd (omega (arith, e, n))

  pub four_words : length (words_of form) ≡ 4 → ((a b c : List ℕ) → kind (word ∷ a ∷ b ∷ c ∷ []) ≡ NoCommand → ⊥) → Shape
  four_words n t [] h e f g = absurd (omega (arith, e, n))
  four_words n t (a ∷ []) h e f g = absurd (omega (arith, e, n))
  four_words n t (a ∷ b ∷ []) h e f g = absurd (omega (arith, e, n))
  four_words n t (a ∷ b ∷ c ∷ []) h e f g = absurd (t a b c h)
  four_words n t (a ∷ b ∷ c ∷ d ∷ words) h e f g = absurd (omega (arith, e, n))

  pub four_with_perms : length (words_of form) ≡ 4 → asks_perms form ≡ true →
      ((a b c : List ℕ) → is_no_perms (Some c) ≡ false → kind (word ∷ a ∷ b ∷ c ∷ []) ≡ NoCommand → ⊥) → Shape
  four_with_perms n p t [] h e f g = absurd (omega (arith, e, n))
  four_with_perms n p t (a ∷ []) h e f g = absurd (omega (arith, e, n))
  four_with_perms n p t (a ∷ b ∷ []) h e f g = absurd (omega (arith, e, n))
  four_with_perms n p t (a ∷ b ∷ c ∷ []) h e f g = absurd (t a b c (sym (ap (λ asks. asks && is_no_perms (Some c)) p) ∙ g) h)
  four_with_perms n p t (a ∷ b ∷ c ∷ d ∷ words) h e f g = absurd (omega (arith, e, n))

  pub two_with_session : length (words_of form) ≡ 2 → is_session_word (slice_get (words_of form) 1) ≡ true →
      ((a : List ℕ) → is_no_session (Some a) ≡ false → kind (word ∷ a ∷ []) ≡ NoCommand → ⊥) → Shape
  two_with_session n s t [] h e f g = absurd (omega (arith, e, n))
  two_with_session n s t (a ∷ []) h e f g = absurd (t a (sym (ap (λ asks. asks && is_no_session (Some a)) s) ∙ f) h)
  two_with_session n s t (a ∷ b ∷ words) h e f g = absurd (omega (arith, e, n))

  pub two_with_number : length (words_of form) ≡ 2 → ((a : List ℕ) → kind (word ∷ a ∷ []) ≡ NoCommand → number_of a ≡ None) → Shape
  two_with_number n t [] h e f g = absurd (omega (arith, e, n))
  two_with_number n t (a ∷ []) h e f g = (a, refl, t a h)
  two_with_number n t (a ∷ b ∷ words) h e f g = absurd (omega (arith, e, n))

  pub three_with_number : length (words_of form) ≡ 3 → is_session_word (slice_get (words_of form) 1) ≡ true →
      ((a b : List ℕ) → is_no_session (Some a) ≡ false → kind (word ∷ a ∷ b ∷ []) ≡ NoCommand → number_of b ≡ None) → Shape
  three_with_number n s t [] h e f g = absurd (omega (arith, e, n))
  three_with_number n s t (a ∷ []) h e f g = absurd (omega (arith, e, n))
  three_with_number n s t (a ∷ b ∷ []) h e f g = (b, refl, t a b (sym (ap (λ asks. asks && is_no_session (Some a)) s) ∙ f) h)
  three_with_number n s t (a ∷ b ∷ c ∷ words) h e f g = absurd (omega (arith, e, n))

  pub five_words : length (words_of form) ≡ 5 → is_session_word (slice_get (words_of form) 1) ≡ true → asks_perms form ≡ true →
      ((a b c d : List ℕ) → is_no_session (Some a) ≡ false → is_no_perms (Some d) ≡ false →
      kind (word ∷ a ∷ b ∷ c ∷ d ∷ []) ≡ NoCommand → ⊥) → Shape
  five_words n s p t [] h e f g = absurd (omega (arith, e, n))
  five_words n s p t (a ∷ []) h e f g = absurd (omega (arith, e, n))
  five_words n s p t (a ∷ b ∷ []) h e f g = absurd (omega (arith, e, n))
  five_words n s p t (a ∷ b ∷ c ∷ []) h e f g = absurd (omega (arith, e, n))
  five_words n s p t (a ∷ b ∷ c ∷ d ∷ []) h e f g =
      let session = sym (ap (λ asks. asks && is_no_session (Some a)) s) ∙ f in
      let perms = sym (ap (λ asks. asks && is_no_perms (Some d)) p) ∙ g in
      absurd (t a b c d session perms h)
  five_words n s p t (a ∷ b ∷ c ∷ d ∷ w ∷ words) h e f g = absurd (omega (arith, e, n))
