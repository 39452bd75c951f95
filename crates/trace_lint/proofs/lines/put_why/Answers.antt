-- The pieces of why a part decides nothing that has stand-ins.
use Rattle.std.proofs.Common.{◌≡◌, ◌∙◌, ◌++◌, ◌-◌, ◌<◌, ℕ, List, drop, take, get_or, length, append_assoc, sym, ap, arith}
use Rattle.std.specs.Prelude.{codes}
use Rattle.std.specs.List.{flat_map}
use Rattle.std.proofs.lemmas.Bool.{eqb-false}
use Rattle.std.proofs.lemmas.List.{length-drop, take_all}
use Rattle.std.proofs.lemmas.Result.{on_ok_weaker}
use Rattle.rule_explain.specs.Explanations.{rule_place}
use Rattle.rule_profile.specs.RuleSpans.{profile_spans}
use Rattle.trace_lint.specs.Lines.{idle_text, work}
use Rattle.trace_lint.specs.inner.Found.{or_place}
use Rattle.trace_lint.proofs.Pieces.{piece, why_parts}
use Rattle.trace_lint.proofs.lines.put_why.Goals as goal

pub returns : goal.returns
returns c =
    let text = c.args.linted.now.text.now in
    let spans = profile_spans c.args.linted.now.profile.now in
    let base = c.args.line.now.items in
    let numbers = c.args.finding.stand_ins.now in
    let some : 0 < length numbers = omega (arith, eqb-false (length numbers) 0 (sym c.is_empty.ensures ∙ c.if-is_empty.false)) in
    let rest : take (length numbers - 1) (drop 1 numbers) ≡ drop 1 numbers =
    take_all (length numbers - 1) (drop 1 numbers) (omega (arith, length-drop 1 numbers)) in
    let first : List ℕ = rule_place text spans (get_or numbers 0 0) in
    let others : List ℕ = flat_map (or_place text spans) (drop 1 numbers) in
    let placed : c.put_others.new.line.items ≡ base ++ (codes " (" ++ (first ++ others)) =
    piece base (codes " (" ++ first) others c.put_place.new.line.items c.put_others.new.line.items
    (piece base (codes " (") first c.put-2.new.line.items c.put_place.new.line.items c.in_ok-put.ensures
    c.in_ok-put_place.ensures)
    (c.in_ok-put_others.ensures ∙ ap (λ (z : List ℕ). c.put_place.new.line.items ++ flat_map (or_place text spans) z) rest)
    ∙ ap (λ z. base ++ z) (append_assoc (codes " (") first others) in
    let worked = piece base (codes " (" ++ (first ++ others)) (work c.args.kind) c.put_others.new.line.items
    c.put-3.new.line.items placed
    (c.in_ok-put-2.ensures ∙ ap (λ z. c.put_others.new.line.items ++ z) c.work.ensures) in
    let idle = piece base (codes " (" ++ (first ++ others) ++ work c.args.kind) (idle_text c.args.finding.idle)
    c.put-3.new.line.items c.put_idle.new.line.items worked c.in_ok-put_idle.ensures in
    on_ok_weaker c.put-4.result
    (λ e. piece base (codes " (" ++ (first ++ others) ++ work c.args.kind ++ idle_text c.args.finding.idle) (codes ")")
    c.put_idle.new.line.items c.put-4.new.line.items idle e
    ∙ ap (λ z. base ++ z) (sym (why_parts text spans c.args.kind numbers 0 c.args.finding.idle some)))
    c.put-4.ensures
