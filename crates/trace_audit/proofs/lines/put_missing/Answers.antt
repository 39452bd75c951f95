use Rattle.std.proofs.Common.{◌∙◌, ◌++◌, ap}
use Rattle.std.specs.Prelude.{codes, option_map}
use Rattle.names.specs.Permissions.{letters}
use Rattle.std.proofs.lemmas.Result.{IfOk-weaker}
use Rattle.trace_audit.specs.Lines.{added_text, x_text}
use Rattle.trace_audit.proofs.Parts.{two}
use Rattle.trace_audit.proofs.lines.put_missing.Goals as goal

pub returns : goal.returns
returns c =
    let l0 = c.args.line.now.items in
    let l1 = c.put.new.line.items in
    let l2 = c.put_letters.new.line.items in
    let l3 = c.put-2.new.line.items in
    let l4 = c.put_added.new.line.items in
    let a1 = codes "no rule for " in
    let a2 = letters c.args.missing in
    let a3 = x_text c.args.x in
    let a4 = added_text (option_map (λ rule. rule.now) c.args.add) in
    IfOk-weaker c.put_added.result _ _ (λ _ h. two l0 l1 l4 a1 (a2 ++ (a3 ++ a4)) c.in_ok-put.ensures
    (two l1 l2 l4 a2 (a3 ++ a4) c.in_ok-put_letters.ensures
    (two l2 l3 l4 a3 a4 (c.in_ok-put-2.ensures ∙ ap (λ x. l2 ++ x) c.x_text.ensures)
    h)))
    c.put_added.ensures
