use Rattle.std.proofs.Common.{◌∙◌, ◌++◌, ap}
use Rattle.std.specs.Prelude.{codes, decimal}
use Rattle.std.proofs.lemmas.Result.{IfOk-weaker}
use Rattle.trace_audit.specs.Lines.{shown, times_text}
use Rattle.trace_audit.proofs.Parts.{two}
use Rattle.trace_audit.proofs.lines.put_front.Goals as goal

pub returns : goal.returns
returns c =
    let l0 = c.args.line.now.items in
    let l1 = c.put_number.new.line.items in
    let l2 = c.put.new.line.items in
    let l3 = c.put_shown.new.line.items in
    let l4 = c.put-2.new.line.items in
    let l5 = c.put_shown-2.new.line.items in
    let l6 = c.put-3.new.line.items in
    let l7 = c.put-4.new.line.items in
    let l8 = c.put_times.new.line.items in
    let a1 = decimal c.args.group.now.line in
    let a2 = codes " " in
    let a3 = shown c.args.group.now.denial.profile.items in
    let a4 = codes " " in
    let a5 = shown c.args.group.now.denial.name.items in
    let a6 = codes " " in
    let a7 = c.args.group.now.denial.mask.items in
    let a8 = times_text c.args.group.now.again.items in
    IfOk-weaker c.put_times.result _ _ (λ _ h. two l0 l1 l8 a1 (a2 ++ (a3 ++ (a4 ++ (a5 ++ (a6 ++ (a7 ++ a8))))))
    c.in_ok-put_number.ensures
    (two l1 l2 l8 a2 (a3 ++ (a4 ++ (a5 ++ (a6 ++ (a7 ++ a8))))) c.in_ok-put.ensures
    (two l2 l3 l8 a3 (a4 ++ (a5 ++ (a6 ++ (a7 ++ a8)))) (c.in_ok-put_shown.ensures ∙ ap (λ x. l2 ++ shown x) c.deref.ensures.value)
    (two l3 l4 l8 a4 (a5 ++ (a6 ++ (a7 ++ a8))) c.in_ok-put-2.ensures
    (two l4 l5 l8 a5 (a6 ++ (a7 ++ a8)) (c.in_ok-put_shown-2.ensures ∙ ap (λ x. l4 ++ shown x) c.deref-2.ensures.value)
    (two l5 l6 l8 a6 (a7 ++ a8) c.in_ok-put-3.ensures
    (two l6 l7 l8 a7 a8 (c.in_ok-put-4.ensures ∙ ap (λ x. l6 ++ x) c.deref-3.ensures.value)
    (h ∙ ap (λ x. l7 ++ times_text x) c.deref-4.ensures.value))))))))
    c.put_times.ensures
