-- One of the profiles has too many states, or they are compared.
use Rattle.std.proofs.Common.{◌∙◌, List, subst, sym}
use Rattle.glob_automaton.specs.Automata.{most_sets}
use Rattle.glob_automaton.specs.Sets.{AreMoreThan}
use Rattle.rule_globs.specs.Rules.{RuleValue}
use Rattle.rule_profile.specs.Profile.{profile_value}
use Rattle.trace_questions.specs.Differences.{IsDiffOf, Versions, versions_of}
use Rattle.trace_report.specs.Output.{finding}
use Rattle.trace_questions.proofs.DiffAnswers.{fault_passed_on, large_new, large_old, same_versions}
use Rattle.trace_questions.proofs.difference.answer_of.Goals as goal

pub returns-in_err-old : goal.returns-in_err-old
returns-in_err-old c path h before after =
    let v = versions_of c.args.texts.now.before.now (profile_value c.args.old).rules c.args.texts.now.after.now
    (profile_value c.args.new).rules in
    fault_passed_on (IsDiffOf c.args.report path v) c.from_residual.result c.in_err-old.field-0.0 c.from_residual.ensures.1
    (large_old c.args.report path v c.in_err-old.field-0.0 c.in_err-old.ensures.err)

pub returns-in_err-new : goal.returns-in_err-new
returns-in_err-new c path h before after =
    let v = versions_of c.args.texts.now.before.now (profile_value c.args.old).rules c.args.texts.now.after.now
    (profile_value c.args.new).rules in
    fault_passed_on (IsDiffOf c.args.report path v) c.from_residual-in_err-new.result c.in_err-new.field-0.0
    c.from_residual-in_err-new.ensures.1
    (large_new c.args.report path v c.in_err-new.field-0.0 c.in_err-new.ensures.err)

pub returns-in-Ok : goal.returns-in-Ok
returns-in-Ok c path h before after =
    let output = finding c.in-Ok.answer.text.items c.in-Ok.answer.found in
    subst (λ (v : Versions). IsDiffOf c.args.report path v output)
    (same_versions c.args.texts.now.before.now c.args.texts.now.after.now c.in_ok-old.old.rules c.in_ok-new.new.rules
    (profile_value c.args.old).rules (profile_value c.args.new).rules c.in_ok-old.ensures.rules c.in_ok-new.ensures.rules)
    (c.in-Ok.ensures path h (c.in_ok-old.ensures.spans ∙ before) (c.in_ok-new.ensures.spans ∙ after)
    (subst (λ (them : List RuleValue). ¬ (AreMoreThan most_sets them)) (sym c.in_ok-old.ensures.rules) c.in_ok-old.ensures.few)
    (subst (λ (them : List RuleValue). ¬ (AreMoreThan most_sets them)) (sym c.in_ok-new.ensures.rules) c.in_ok-new.ensures.few))
