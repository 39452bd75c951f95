use Rattle.std.proofs.lemmas.Grind.{common_steps}
use Rattle.std.proofs.Common.{◌≡◌, ◌<◌, ◌∷◌, ◌++◌, [], ℕ, Bool, List, length, false, ap, sym, ◌∙◌, arith}
use Rattle.std.specs.Prelude.{if◌then◌else◌, Ok, Err}
use mathlib.Core.Logic.{inl, inr, ◌⊎◌}
use Rattle.names.specs.declared.errors.Errno.TheVariants.{EINVAL}
use Rattle.names.specs.Paths.{filled_parts, ends_with_slash}
use Rattle.path_lookup.specs.Target.{is_refused}
use Rattle.path_lookup.proofs.Splits.{split_names, target_slash, target_open, filled_from, shorter}
use Rattle.directory_tree.proofs.Texts.{steps_before}
use Rattle.path_lookup.proofs.target.split_text.Goals as goal
use Rattle.path_lookup.proofs.target.split_text.Goals.{else-is_refused-via-then-is_refused+else-text-path}
use Rattle.path_lookup.proofs.target.split_text.Goals.{else-is_refused-via-else-is_refused}

pub returns-then-text-path-clause-err : goal.returns-then-text-path-clause-err
returns-then-text-path-clause-err c =
    let text = c.without_end_slashes-text in
    let parts = c.split_at_last_slash in
    let long : 0 < length text.result.now = grind (arith, common_steps, c.is_empty.ensures, c.if-is_empty.false) in
    let whole = sym text.ensures.names ∙ split_names text.result.now parts.result.0.now parts.result.1.now
    (filled_from text.result.now long) text.ensures.open parts.ensures.no_slash parts.ensures.whole in
    target_slash c.args.slash c.args.path.now parts.result.0.now parts.result.1.now whole (sym c.is_refused.ensures ∙ c.if-is_refused.true)
    (text.ensures.cut c.if-text-path.true)

pub returns-then-is_dots-clause-err : goal.returns-then-is_dots-clause-err
returns-then-is_dots-clause-err c =
    let text = c.without_end_slashes-text in
    let parts = c.split_at_last_slash in
    let long : 0 < length text.result.now = grind (arith, common_steps, c.is_empty.ensures, c.if-is_empty.false) in
    let whole = sym text.ensures.names ∙ split_names text.result.now parts.result.0.now parts.result.1.now
    (filled_from text.result.now long) text.ensures.open parts.ensures.no_slash parts.ensures.whole in
    let unclosed : (is_refused c.args.slash ≡ false) ⊎ (ends_with_slash c.args.path.now ≡ false) = elim c.else-is_refused.branch [
      | else-is_refused-via-then-is_refused+else-text-path w ↦ inr (text.ensures.whole (omega (arith, text.ensures.short)))
      | else-is_refused-via-else-is_refused w ↦ inl (sym c.is_refused.ensures ∙ w.if-is_refused.false)
    ] in
    target_open c.args.slash c.args.path.now parts.result.0.now parts.result.1.now whole unclosed
    ∙ ap (λ (b : Bool). if b then Err EINVAL else Ok record { before = filled_parts parts.result.0.now; last = parts.result.1.now })
    (sym c.is_dots.ensures ∙ c.if-is_dots.true)

pub returns-clause-ok : goal.returns-clause-ok
returns-clause-ok c =
    let text = c.without_end_slashes-text in
    let parts = c.split_at_last_slash in
    let front = c.without_end_slashes-before in
    let long : 0 < length text.result.now = grind (arith, common_steps, c.is_empty.ensures, c.if-is_empty.false) in
    let whole = sym text.ensures.names ∙ split_names text.result.now parts.result.0.now parts.result.1.now
    (filled_from text.result.now long) text.ensures.open parts.ensures.no_slash parts.ensures.whole in
    let unclosed : (is_refused c.args.slash ≡ false) ⊎ (ends_with_slash c.args.path.now ≡ false) = elim c.else-is_refused.branch [
      | else-is_refused-via-then-is_refused+else-text-path w ↦ inr (text.ensures.whole (omega (arith, text.ensures.short)))
      | else-is_refused-via-else-is_refused w ↦ inl (sym c.is_refused.ensures ∙ w.if-is_refused.false)
    ] in
    record {
      target =
          target_open c.args.slash c.args.path.now parts.result.0.now parts.result.1.now whole unclosed
          ∙ ap (λ (b : Bool). if b then Err EINVAL else Ok record { before = filled_parts parts.result.0.now; last = parts.result.1.now })
          (sym c.is_dots.ensures ∙ c.if-is_dots.false)
          ∙ ap (λ (before : List (List ℕ)). Ok record { before = before; last = parts.result.1.now }) (sym front.ensures.names);
      steps = steps_before front.result.now front.ensures.open;
      names = whole ∙ ap (λ (before : List (List ℕ)). before ++ parts.result.1.now ∷ []) (sym front.ensures.names);
      short = omega (arith, shorter parts.result.0.now parts.result.1.now text.result.now parts.ensures.whole);
    }
