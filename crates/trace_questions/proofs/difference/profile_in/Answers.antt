-- A text's faults are reported with its side.
use Rattle.std.proofs.Common.{◌∙◌, ap, sym, subst}
use Rattle.rule_reader.specs.ReadText.{outcome_of}
use Rattle.trace_questions.specs.declared.sides.SideFault.{SideFault}
use Rattle.trace_questions.specs.inner.Sides.{side_fault_of}
use Rattle.trace_questions.proofs.DiffAnswers.{IsTextRefused, unread_in}
use Rattle.trace_questions.proofs.difference.profile_in.Goals as goal

pub returns-in-Err : goal.returns-in-Err
returns-in-Err c =
    subst (λ (f : SideFault). IsTextRefused c.args.side (outcome_of c.args.text.now) f)
    (sym (c.of.ensures ∙ ap (side_fault_of c.args.side) c.from.ensures))
    (unread_in c.args.side (outcome_of c.args.text.now) c.in-Err.fault c.in-Err.ensures.outcome)
