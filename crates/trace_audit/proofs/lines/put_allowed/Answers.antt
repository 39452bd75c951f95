use Rattle.std.proofs.Common.{◌∙◌, ◌++◌, ap}
use Rattle.std.specs.Prelude.{codes}
use Rattle.std.proofs.lemmas.Result.{IfOk-weaker}
use Rattle.audit_log.specs.Denials.{denial_value}
use Rattle.trace_audit.specs.Answers.{has_x}
use Rattle.trace_audit.specs.Lines.{changed_text, numbers_text, x_text}
use Rattle.trace_audit.proofs.Parts.{two}
use Rattle.trace_audit.proofs.lines.put_allowed.Goals as goal

pub returns : goal.returns
returns c =
    let l0 = c.args.line.now.items in
    let l1 = c.put.new.line.items in
    let l2 = c.put_numbers.new.line.items in
    let l3 = c.put-2.new.line.items in
    let l4 = c.put-3.new.line.items in
    let a1 = codes "allowed by rule " in
    let a2 = numbers_text c.args.rules.now in
    let a3 = changed_text (denial_value c.args.denial.now).info in
    let a4 = x_text (has_x c.args.denial.now.mask.items) in
    IfOk-weaker c.put-3.result _ _ (λ _ h. two l0 l1 l4 a1 (a2 ++ (a3 ++ a4)) c.in_ok-put.ensures
    (two l1 l2 l4 a2 (a3 ++ a4) c.in_ok-put_numbers.ensures
    (two l2 l3 l4 a3 a4 (c.in_ok-put-2.ensures ∙ ap (λ x. l2 ++ x) c.changed_text.ensures)
    (h ∙ ap (λ x. l3 ++ x) (c.x_text.ensures ∙ ap x_text (c.has_x.ensures ∙ ap has_x c.deref.ensures.value))))))
    c.put-3.ensures
