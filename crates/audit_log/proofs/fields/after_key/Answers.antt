use Rattle.std.proofs.Common.{◌≡◌, ◌∙◌, ◌<◌, Some, length, drop, arith, true}
use Rattle.std.proofs.lemmas.List.{length-drop}
use Rattle.audit_log.proofs.FirstFields.{found_here}
use Rattle.audit_log.proofs.fields.after_key.Goals as goal

pub returns-in-Some : goal.returns-in-Some
returns-in-Some c =
    let rest = drop c.loop-i.i c.args.line.now in
    let some : 0 < length rest = omega (arith, length-drop c.loop-i.i c.args.line.now) in
    let front : c.loop-i.front ≡ true = cc in
    let same : c.split_at.result.1.now ≡ rest = cc in
    let e = c.in-Some.ensures.cases in
    found_here c.args.key.now rest c.in-Some.value.now c.loop-i.front c.loop-i.quoted some front (rw same at e.0) (rw same at e.1)
    ∙ c.loop-i.invariant
