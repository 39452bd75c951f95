use Rattle.std.proofs.Common.{◌∙◌, ◌++◌, ap}
use Rattle.std.specs.Prelude.{codes, decimal}
use Rattle.std.proofs.lemmas.Result.{IfOk-weaker}
use Rattle.trace_audit.specs.Lines.{shown}
use Rattle.trace_audit.proofs.Parts.{two}
use Rattle.trace_audit.proofs.lines.put_refusal.Goals as goal

pub returns : goal.returns
returns c =
    let l0 = c.args.line.now.items in
    let l1 = c.put.new.line.items in
    let l2 = c.put_number.new.line.items in
    let l3 = c.put-2.new.line.items in
    let l4 = c.put_shown.new.line.items in
    let a1 = codes "not imported: import " in
    let a2 = decimal c.args.refusal.number in
    let a3 = codes " in " in
    let a4 = shown c.args.refusal.file.now in
    IfOk-weaker c.put_shown.result _ _ (λ _ h. two l0 l1 l4 a1 (a2 ++ (a3 ++ a4)) c.in_ok-put.ensures
    (two l1 l2 l4 a2 (a3 ++ a4) (c.in_ok-put_number.ensures ∙ ap (λ n. l1 ++ decimal n) c.from.ensures)
    (two l2 l3 l4 a3 a4 c.in_ok-put-2.ensures
    (h ∙ ap (λ x. l3 ++ shown x) c.as_bytes.ensures.value))))
    c.put_shown.ensures
