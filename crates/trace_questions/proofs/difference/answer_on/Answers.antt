-- The first fault on the way, or what is found.
use Rattle.rule_profile.specs.Profile.{profile_value}
use Rattle.rule_reader.specs.ReadText.{outcome_of}
use Rattle.trace_questions.specs.Differences.{IsDiffOutputOf}
use Rattle.trace_questions.proofs.DiffAnswers.{fault_passed_on, new_refused, of_texts, old_refused}
use Rattle.trace_questions.proofs.difference.answer_on.Goals as goal

pub returns-in_err-old : goal.returns-in_err-old
returns-in_err-old c path h =
    let w = c.args.report in
    let before = c.args.texts.now.before.now in
    let after = c.args.texts.now.after.now in
    let f = c.in_err-old.field-0.0 in
    fault_passed_on (IsDiffOutputOf w path before after (outcome_of before) (outcome_of after)) c.from_residual.result f
    c.from_residual.ensures.1
    (old_refused w path before after (outcome_of before) (outcome_of after) f c.in_err-old.ensures)

pub returns-in_err-new : goal.returns-in_err-new
returns-in_err-new c path h =
    let w = c.args.report in
    let before = c.args.texts.now.before.now in
    let after = c.args.texts.now.after.now in
    let f = c.in_err-new.field-0.0 in
    fault_passed_on (IsDiffOutputOf w path before after (outcome_of before) (outcome_of after)) c.from_residual-in_err-new.result f
    c.from_residual-in_err-new.ensures.1
    (new_refused w path before after (profile_value c.in_ok-old.old) (outcome_of before) (outcome_of after) f c.in_ok-old.ensures.0
    c.in_err-new.ensures)

pub returns : goal.returns
returns c path h =
    let before = c.args.texts.now.before.now in
    let after = c.args.texts.now.after.now in
    of_texts c.args.report path before after (profile_value c.in_ok-old.old) (profile_value c.in_ok-new.new) (outcome_of before)
    (outcome_of after) c.answer_of.result c.in_ok-old.ensures.0 c.in_ok-new.ensures.0
    (c.answer_of.ensures path h c.in_ok-old.ensures.1 c.in_ok-new.ensures.1)
