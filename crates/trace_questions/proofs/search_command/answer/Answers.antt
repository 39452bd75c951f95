-- The arguments are bad, or the text isn't read, or it is answered.
use Rattle.std.proofs.Common.{ℕ, List, subst}
use Rattle.rule_reader.specs.ReadText.{outcome_of}
use Rattle.trace_questions.specs.Search.{IsSearchOutput, IsSearchOutputOf}
use Rattle.trace_questions.specs.inner.Questions.{IsAnswered}
use Rattle.trace_questions.proofs.Arguments.{asked_in_vain, text_answered, text_unread}
use Rattle.trace_questions.proofs.Refused.{passed_on}
use Rattle.trace_report.specs.laws.Endings.{text_of}
use Rattle.trace_questions.proofs.search_command.answer.Goals as goal

pub returns-in_err-asked-clause-output : goal.returns-in_err-asked-clause-output
returns-in_err-asked-clause-output g c =
    let text = text_of (g.R.Read.remaining c.args.input.now) in (
      text.0,
      text.1,
      passed_on (IsSearchOutput c.args.format c.args.quantifier c.args.perms.now c.args.pattern.now text.0) c.from_residual.result
          c.in_err-asked.field-0.0 c.from_residual.ensures.1
          (asked_in_vain c.args.format c.args.quantifier c.args.perms.now c.args.pattern.now text.0 c.in_err-asked.field-0.0
          c.in_err-asked.ensures),
    )

pub returns-in_err-text-clause-output : goal.returns-in_err-text-clause-output
returns-in_err-text-clause-output g c =
    let text = text_of (g.R.Read.remaining c.args.input.now) in
    let asked = c.in_ok-asked.ensures in (
      text.0,
      text.1,
      passed_on (IsSearchOutput c.args.format c.args.quantifier c.args.perms.now c.args.pattern.now text.0)
          c.from_residual-in_err-text.result
          c.in_err-text.field-0.0 c.from_residual-in_err-text.ensures.1
          (text_unread c.args.format c.args.quantifier c.args.perms.now c.args.pattern.now text.0 c.in_ok-asked.asked.ask asked.0 asked.1
          c.in_err-text.field-0.0 c.in_err-text.ensures),
    )

pub returns-clause-output : goal.returns-clause-output
returns-clause-output g c =
    let asked = c.in_ok-asked.ensures in (
      c.in_ok-text.text.items,
      c.in_ok-text.ensures,
      text_answered c.args.format c.args.quantifier c.args.perms.now c.args.pattern.now c.in_ok-text.text.items c.in_ok-asked.asked.ask
          asked.0 asked.1
          c.answer_on.result
          (subst (λ (text : List ℕ). IsAnswered (IsSearchOutputOf c.args.format c.args.quantifier c.in_ok-asked.asked.ask asked.0 text
          (outcome_of text))
          c.answer_on.result) c.deref.ensures.value (c.answer_on.ensures asked.0 asked.2)),
    )
