use Rattle.std.proofs.Common.{◌≡◌, ◌∙◌, ◌++◌, Some, ap}
use Rattle.std.specs.Prelude.{codes, option_map}
use Rattle.std.proofs.lemmas.Result.{IfOk-weaker}
use Rattle.trace_audit.specs.Lines.{info_text, shown}
use Rattle.trace_audit.proofs.Parts.{two}
use Rattle.trace_audit.proofs.lines.put_info.Goals as goal

pub returns-in_ok-put-in-Some : goal.returns-in_ok-put-in-Some
returns-in_ok-put-in-Some c =
    let l0 = c.args.line.now.items in
    let l1 = c.put.new.line.items in
    let l2 = c.put_shown.new.line.items in
    let at = c.in-Some.is in
    let is : Some c.in-Some.info ≡ c.args.denial.now.info = cc in
    IfOk-weaker c.put_shown.result _ _ (λ _ h. two l0 l1 l2 (codes "; the kernel's reason: ") (shown c.in-Some.info.items)
    c.in_ok-put-in-Some.ensures (h ∙ ap (λ x. l1 ++ shown x) c.deref.ensures.value)
    ∙ ap (λ info. l0 ++ info_text (option_map (λ text. text.items) info)) is)
    c.put_shown.ensures
