-- The lines of the names that this profile alone allows it to.
use Rattle.std.proofs.Common.{◌∙◌, ◌++◌, ℕ, List, Vec, Global, ap, subst}
use Rattle.std.specs.List.{flat_map}
use Rattle.std.proofs.lemmas.Result.{on_ok_weaker}
use Rattle.rule_globs.specs.Rules.{RuleValue}
use Rattle.question_answers.specs.Alone.{AreAlone}
use Rattle.question_answers.specs.LeastNames.{listed}
use Rattle.trace_questions.specs.Differences.{difference_text}
use Rattle.trace_questions.specs.inner.Differences.{versions_value}
use Rattle.trace_questions.proofs.changes.put_change.Goals as goal

pub returns : goal.returns
returns c below h =
    let v = versions_value c.args.versions.now in
    let p = c.args.permission in
    let side = c.args.side in
    let w = c.args.listing.report in
    let names : List (List ℕ) = listed c.in_ok-names.names.items in
    let are : AreAlone w.witnesses below v.old.rules v.new.rules p side names =
    subst (λ (rules : List RuleValue). AreAlone w.witnesses below v.old.rules rules p side names) h.second
    (subst (λ (rules : List RuleValue). AreAlone w.witnesses below rules c.args.comparison.now.second p side names) h.first
    (c.in_ok-names.ensures below h.third h.given)) in
    on_ok_weaker c.put_lines.result
    (λ added. (
      names,
      are,
      added ∙ ap (λ (them : List (Vec ℕ Global)). c.args.text.now.items ++ flat_map (difference_text w.format v p side) (listed them))
          c.deref.ensures.value,
    ))
    (c.put_lines.ensures h.before h.after)
