use Rattle.std.proofs.Common.{◌∙◌, ap}
use Rattle.serde_json.specs.Written.{has_float}
use Rattle.trace_audit.specs.inner.AnswerValues.{answer_value}
use Rattle.trace_audit.specs.inner.GroupValues.{group_value}
use Rattle.trace_audit.proofs.FloatLaws.{no_float_in_denial}
use Rattle.trace_audit.proofs.SameObjects.{same_object}
use Rattle.trace_audit.proofs.values.denial_object.Goals as goal

pub returns-in-Ok-clause-integers : goal.returns-in-Ok-clause-integers
returns-in-Ok-clause-integers c =
    ap has_float (c.in-Ok.ensures ∙ same_object (group_value c.args.group.now) (answer_value c.args.answer.now) _ _
    c.in_ok-of_group.ensures c.in_ok-of_answer.ensures)
    ∙ no_float_in_denial (group_value c.args.group.now) (answer_value c.args.answer.now)
