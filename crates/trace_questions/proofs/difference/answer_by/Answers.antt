-- The path or all together have too many states, or what is found.
use Rattle.std.proofs.Common.{◌∙◌, List, inr, sym, subst}
use Rattle.glob_automaton.specs.Automata.{most_sets}
use Rattle.glob_automaton.specs.Sets.{AreMoreThan}
use Rattle.rule_globs.specs.Rules.{RuleValue}
use Rattle.rule_profile.specs.Profile.{profile_value}
use Rattle.trace_questions.specs.Differences.{IsCompared, IsDiffOf, Versions, versions_of}
use Rattle.trace_report.specs.Output.{finding}
use Rattle.trace_questions.proofs.DiffAnswers.{answerable, large_all, large_below, same_versions}
use Rattle.trace_questions.proofs.Refused.{passed_on}
use Rattle.trace_questions.proofs.difference.answer_by.Goals as goal

pub returns-in_err-names : goal.returns-in_err-names
returns-in_err-names c path h before after few small =
    let v : Versions = versions_of c.args.texts.now.before.now c.args.old.now.rules c.args.texts.now.after.now c.args.new.now.rules in
    let f = c.in_err-names.field-0.0 in
    passed_on (IsDiffOf c.args.report path v) c.from_residual.result f c.from_residual.ensures.1
    (large_below c.args.report path v (profile_value c.args.below.profile).rules f h.rules c.in_err-names.ensures.err)

pub returns-in_err-comparison : goal.returns-in_err-comparison
returns-in_err-comparison c path h before after few small =
    let v : Versions = versions_of c.args.texts.now.before.now c.args.old.now.rules c.args.texts.now.after.now c.args.new.now.rules in
    let f = c.in_err-comparison.field-0.0 in
    passed_on (IsDiffOf c.args.report path v) c.from_residual-in_err-comparison.result f c.from_residual-in_err-comparison.ensures.1
    (large_all c.args.report path v c.in_ok-names.names.rules f (c.in_ok-names.ensures.rules ∙ h.rules)
    c.in_err-comparison.ensures.err)

pub returns-in-Ok : goal.returns-in-Ok
returns-in-Ok c path h before after few small =
    let w = c.args.report in
    let compared = c.in_ok-comparison.ensures in
    let output = finding c.in-Ok.answer.text.items c.in-Ok.answer.found in
    let third = c.in_ok-names.ensures.rules ∙ h.rules in
    inr (
      answerable path c.args.old.now.rules c.args.new.now.rules c.in_ok-names.names.rules third few small
          (subst (λ (them : List RuleValue). ¬ (AreMoreThan most_sets them)) (sym c.in_ok-names.ensures.rules) c.in_ok-names.ensures.few)
          compared.few,
      subst (λ (v : Versions). IsCompared w path v output)
          (same_versions c.args.texts.now.before.now c.args.texts.now.after.now (profile_value c.profile.result.now).rules
          (profile_value c.profile-2.result.now).rules c.args.old.now.rules c.args.new.now.rules c.profile.ensures.rules
          c.profile-2.ensures.rules)
          (c.in-Ok.ensures path (record {
            first = compared.first ∙ sym c.profile.ensures.rules;
            second = compared.second ∙ sym c.profile-2.ensures.rules;
            third = compared.third ∙ third;
            given = h.restricted;
            before = c.profile.ensures.spans ∙ before;
            after = c.profile-2.ensures.spans ∙ after;
          })),
    )
