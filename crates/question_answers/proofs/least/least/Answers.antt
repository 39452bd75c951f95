-- What all three lists of rules say is wanted of the names in question.
use Rattle.std.proofs.Common.{subst}
use Rattle.std.proofs.lemmas.Result.{IfOk-weaker}
use Rattle.profile_questions.specs.Questions.{IsShortest, found_name}
use Rattle.profile_questions.specs.declared.answer.Answers.{Answers}
use Rattle.question_answers.proofs.BelowLaws.{least_wanted}
use Rattle.question_answers.proofs.least.least.Goals as goal

pub returns : goal.returns
returns c below third given =
    IfOk-weaker c.shortest.result _ _
    (λ found h. least_wanted c.pattern_rules_allow_what_they_take.ensures c.args.comparison.now c.args.wanted below c.args.restricted
    (found_name found) third given
    (subst (λ (a : Answers). IsShortest c.args.comparison.now a (found_name found)) c.answers.ensures h)) c.shortest.ensures
