use Rattle.std.proofs.Common.{◌∙◌, ◌++◌, ap}
use Rattle.std.specs.Prelude.{codes, decimal}
use Rattle.std.proofs.lemmas.Result.{IfOk-weaker}
use Rattle.trace_audit.specs.Lines.{x_text}
use Rattle.trace_audit.proofs.Parts.{two}
use Rattle.trace_audit.proofs.lines.put_denied.Goals as goal

pub returns : goal.returns
returns c =
    let l0 = c.args.line.now.items in
    let l1 = c.put.new.line.items in
    let l2 = c.put_number.new.line.items in
    let l3 = c.put-2.new.line.items in
    let l4 = c.put-3.new.line.items in
    let l5 = c.put-4.new.line.items in
    let a1 = codes "denied by rule " in
    let a2 = decimal c.args.rule in
    let a3 = codes ": " in
    let a4 = c.args.text.now in
    let a5 = x_text c.args.x in
    IfOk-weaker c.put-4.result _ _ (λ _ h. two l0 l1 l5 a1 (a2 ++ (a3 ++ (a4 ++ a5))) c.in_ok-put.ensures
    (two l1 l2 l5 a2 (a3 ++ (a4 ++ a5)) (c.in_ok-put_number.ensures ∙ ap (λ n. l1 ++ decimal n) c.from.ensures)
    (two l2 l3 l5 a3 (a4 ++ a5) c.in_ok-put-2.ensures
    (two l3 l4 l5 a4 a5 c.in_ok-put-3.ensures
    (h ∙ ap (λ x. l4 ++ x) c.x_text.ensures)))))
    c.put-4.ensures
