-- The lines about what one of two profiles alone allows.
use Rattle.std.proofs.Common.{◌≡◌, ◌↔◌, ℕ, ◌+◌, ◌<◌, Bool, true, false, IsTrue, true≢false, List, [], ◌∷◌, ◌++◌, Option, inl, inr}
use Rattle.std.proofs.Common.{take, get_or, length, refl, sym, ap, subst, ◌∙◌, append_assoc, append-nil}
use Rattle.std.specs.List.{flat_map}
use Rattle.std.specs.Prelude.{codes, IfOk, Result, Ok, Err}
use Rattle.std.proofs.lemmas.List.{take_more}
use Rattle.std.proofs.lemmas.List.Concat.{flat_map-append}
use Rattle.names.specs.Permissions.{all_permissions}
use Rattle.names.specs.declared.permissions.Permission.{Permission}
use Rattle.rule_globs.specs.Tokens.{Token}
use Rattle.question_answers.specs.Alone.{AreAlone}
use Rattle.question_answers.specs.Below.{IsBelow}
use Rattle.trace_questions.specs.declared.report.Report.{Report}
use Rattle.question_answers.specs.declared.side.Side.{Side}
use Rattle.question_answers.specs.declared.side.Side.TheVariants.{New, Old}
use Rattle.trace_questions.specs.Differences.{AreDifferences, IsCompared, TakesNone, Versions, all_differences, answer_of}
use Rattle.trace_questions.specs.Differences.{difference_text, words_text}
use Rattle.trace_report.specs.Output.{finding}

-- ---- lines

module _ (w : Report) (below : Option (List Token)) (v : Versions) where
  joined : (one two : List (Permission × Side)) (xs ys : List ℕ) → AreDifferences w below v one xs → AreDifferences w below v two ys →
      AreDifferences w below v (one ++ two) (xs ++ ys)
  joined [] two xs ys h k = subst (λ (start : List ℕ). AreDifferences w below v two (start ++ ys)) (sym h) k
  joined (d ∷ ds) two xs ys h k = (
    h.0,
    h.1,
    (
      h.2.0 ++ ys,
      joined ds two h.2.0 ys h.2.1 k,
      ap (λ (start : List ℕ). start ++ ys) h.2.2 ∙ append_assoc (flat_map (difference_text w.format v d.0 d.1) h.0) h.2.0 ys,
    ),
  )

  -- the lines of a permission that a side alone allows to some names were appended
  abbrev pub AreLinesAdded : Permission → Side → List ℕ → List ℕ → Type 0
  AreLinesAdded p side before after = (names : List (List ℕ)) × AreAlone w.witnesses below v.old.rules v.new.rules p side names
      × (after ≡ before ++ flat_map (difference_text w.format v p side) names)

abbrev pub sides_of : Permission → List (Permission × Side)
sides_of p = (p, New) ∷ (p, Old) ∷ []

-- the lines of the first permissions
abbrev pub AreFirst : Report → Option (List Token) → Versions → ℕ → List ℕ → Type 0
AreFirst w below v count text = AreDifferences w below v (flat_map sides_of (take count all_permissions)) text

one_more : (ps : List Permission) (i : ℕ) (d : Permission) → i < length ps → flat_map sides_of (take (i + 1) ps)
    ≡ flat_map sides_of (take i ps) ++ sides_of (get_or ps i d)
one_more ps i d lt =
    ap (flat_map sides_of) (take_more ps i d lt)
    ∙ flat_map-append sides_of (take i ps) (get_or ps i d ∷ [])
    ∙ ap (λ (ds : List (Permission × Side)). flat_map sides_of (take i ps) ++ ds) (append-nil (sides_of (get_or ps i d)))

both_lines : (w : Report) (below : Option (List Token)) (v : Versions) (p : Permission) (now with_new after : List ℕ) →
    AreLinesAdded w below v p New now with_new → AreLinesAdded w below v p Old with_new after →
    (lines : List ℕ) × AreDifferences w below v (sides_of p) lines × (after ≡ now ++ lines)
both_lines w below v p now with_new after h k =
    let one : List ℕ = flat_map (difference_text w.format v p New) h.0 in
    let two : List ℕ = flat_map (difference_text w.format v p Old) k.0 in (
      one ++ (two ++ []),
      (h.0, h.1, (two ++ [], (k.0, k.1, ([], refl, refl)), refl)),
      k.2 ∙ ap (λ (start : List ℕ). start ++ two) h.2 ∙ append_assoc now one two
          ∙ ap (λ (end : List ℕ). now ++ (one ++ end)) (sym (append-nil two)),
    )

-- one more permission
pub both_added : (w : Report) (below : Option (List Token)) (v : Versions) (i : ℕ) (d : Permission) (now with_new after : List ℕ) →
    i < length all_permissions → AreFirst w below v i now → AreLinesAdded w below v (get_or all_permissions i d) New now with_new
    → AreLinesAdded w below v (get_or all_permissions i d) Old with_new after → AreFirst w below v (i + 1) after
both_added w below v i d now with_new after lt so_far h k =
    let p : Permission = get_or all_permissions i d in
    let both = both_lines w below v p now with_new after h k in
    subst (λ (text : List ℕ). AreFirst w below v (i + 1) text) (sym both.2)
    (subst (λ (ds : List (Permission × Side)). AreDifferences w below v ds (now ++ both.0)) (sym (one_more all_permissions i d lt))
    (joined w below v (flat_map sides_of (take i all_permissions)) (sides_of p) now both.0 so_far both.1))

-- ---- what is written

-- what two clauses say of a result
pub of_both : {T E : Type 0} (r : Result T E) (P Q R : T → Type 0) → ((x : T) → P x → Q x → R x) → IfOk r P → IfOk r Q → IfOk r R
of_both (Ok x) P Q R f p q = f x p q
of_both (Err e) P Q R f p q = tt

module _ (w : Report) (below : Option (List Token)) (v : Versions) where
  pub compared_none : (some : Bool) (text : List ℕ) → (IsTrue some ↔ ((name : List ℕ) × IsBelow below name)) → some ≡ false →
      text ≡ words_text w.format (codes "no name matches") → IsCompared w below v (finding text false)
  compared_none some text h none e =
      let takes_none : TakesNone below = λ name is. true≢false (sym (h.1 (name, is)) ∙ none) in
      inl (takes_none, ap (λ (bytes : List ℕ). finding bytes false) e)

  pub compared_same : ((name : List ℕ) × IsBelow below name) → (lines text : List ℕ) → AreDifferences w below v all_differences lines →
      lines ≡ [] → text ≡ words_text w.format (codes "same") → IsCompared w below v (finding text false)
  compared_same some lines text are e same =
      inr (
        some,
        (
          [],
          subst (λ (bytes : List ℕ). AreDifferences w below v all_differences bytes) e are,
          ap (λ (bytes : List ℕ). finding bytes false) same,
        ),
      )

  found_lines : (lines : List ℕ) → ¬ (lines ≡ []) → finding lines true ≡ answer_of w.format lines
  found_lines [] h = absurd (h refl)
  found_lines (b ∷ lines) h = refl

  pub compared_lines : ((name : List ℕ) × IsBelow below name) → (lines : List ℕ) → AreDifferences w below v all_differences lines →
      ¬ (lines ≡ []) → IsCompared w below v (finding lines true)
  compared_lines some lines are more = inr (some, (lines, are, found_lines lines more))
