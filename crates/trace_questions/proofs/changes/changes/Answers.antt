-- By the lines of all permissions.
use Rattle.std.proofs.Common.{◌≡◌, ◌∙◌, ℕ, Bool, true, false, List, [], ◌∷◌, length, arith, refl, sym, subst}
use Rattle.std.specs.Prelude.{◌==◌, vec_len}
use Rattle.names.specs.declared.permissions.Permission.TheVariants.{Read}
use Rattle.trace_questions.specs.Differences.{AreDifferences, IsCompared, all_differences}
use Rattle.trace_questions.specs.inner.Differences.{versions_value}
use Rattle.trace_report.specs.Output.{finding}
use Rattle.trace_questions.proofs.DifferenceLaws.{AreFirst, both_added, compared_lines, compared_none, compared_same, of_both}
use Rattle.trace_questions.proofs.changes.changes.Goals as goal

emptied : (lines : List ℕ) (n : ℕ) → n ≡ length lines → true ≡ (n == 0) → lines ≡ []
emptied [] n l e = refl
emptied (b ∷ lines) n l e = absurd (grind arith)

not_emptied : (lines : List ℕ) (n : ℕ) → n ≡ length lines → false ≡ (n == 0) → ¬ (lines ≡ [])
not_emptied [] n l e = absurd (grind arith)
not_emptied (b ∷ lines) n l e = λ is. cc

pub returns-then-not-branch : goal.returns-then-not-branch
returns-then-not-branch c below h =
    let v = versions_value c.args.versions.now in
    let w = c.args.listing.report in
    of_both c.words_answer.result _ _ _
    (λ answer text found. subst (λ (b : Bool). IsCompared w below v (finding answer.text.items b)) (sym found)
    (compared_none w below v c.in_ok-some_name.field-0 answer.text.items (c.in_ok-some_name.ensures below h.third h.given)
    c.if-not-branch.true text))
    c.words_answer.ensures.text c.words_answer.ensures.found

pub loop-permission-preserved : goal.loop-permission-preserved
loop-permission-preserved c below h =
    both_added c.args.listing.report below (versions_value c.args.versions.now) c.loop-permission.permission-index Read
    c.loop-permission.text.items
    c.put_change.new.text.items c.put_change-in-loop-permission.new.text.items c.loop-permission-test.true
    (c.loop-permission.invariant below h) (c.in_ok-put_change.ensures below h) (c.in_ok-put_change-2.ensures below h)

pub returns-then-is_empty : goal.returns-then-is_empty
returns-then-is_empty c below h =
    let v = versions_value c.args.versions.now in
    let w = c.args.listing.report in
    let text = c.loop-permission.text in
    let all : c.loop-permission.permission-index ≡ 6 = omega (
      arith,
      c.loop-permission-test.false,
      c.loop-permission.auto.permission-index-end,
    ) in
    let are : AreDifferences w below v all_differences text.items = subst (λ (i : ℕ). AreFirst w below v i text.items) all
    (c.loop-permission.invariant below h) in
    let empty : text.items ≡ [] = emptied text.items (vec_len text) text.ok.0 (sym c.if-is_empty.true ∙ c.is_empty.ensures) in
    of_both c.words_answer-then-is_empty.result _ _ _
    (λ answer same found. subst (λ (b : Bool). IsCompared w below v (finding answer.text.items b)) (sym found)
    (compared_same w below v ((c.in_ok-some_name.ensures below h.third h.given).0 c.if-not-branch.false) text.items answer.text.items
    are empty same))
    c.words_answer-then-is_empty.ensures.text c.words_answer-then-is_empty.ensures.found

pub returns : goal.returns
returns c below h =
    let v = versions_value c.args.versions.now in
    let w = c.args.listing.report in
    let text = c.loop-permission.text in
    let all : c.loop-permission.permission-index ≡ 6 = omega (
      arith,
      c.loop-permission-test.false,
      c.loop-permission.auto.permission-index-end,
    ) in
    let are : AreDifferences w below v all_differences text.items = subst (λ (i : ℕ). AreFirst w below v i text.items) all
    (c.loop-permission.invariant below h) in
    compared_lines w below v ((c.in_ok-some_name.ensures below h.third h.given).0 c.if-not-branch.false) text.items are
    (not_emptied text.items (vec_len text) text.ok.0 (sym c.if-is_empty.false ∙ c.is_empty.ensures))
