-- What is found, and its text.
use Rattle.std.proofs.lemmas.Result.{IfOk-weaker}
use Rattle.question_answers.specs.Findings.{finding_value}
use Rattle.trace_questions.proofs.search_command.answer_among.Goals as goal

pub returns : goal.returns
returns c path second third =
    IfOk-weaker c.search_text.result _ _ (λ answer e. (finding_value c.in_ok-found.found, c.in_ok-found.ensures path second third, e))
    c.search_text.ensures
