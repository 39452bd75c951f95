use Rattle.std.proofs.Common.{◌≡◌, ◌++◌, List, ℕ, ap, ◌∙◌}
use Rattle.std.specs.Prelude.{codes, decimal}
use Rattle.std.proofs.lemmas.Result.{IfOk-weaker}
use Rattle.rule_profile.specs.Profile.{rule_value}
use Rattle.rule_writer.specs.Canonical.{rule_text}
use Rattle.trace_test.proofs.ReasonParts.{both_added, told_so}
use Rattle.trace_test.proofs.reasons.put_rule.Goals as goal

pub returns : goal.returns
returns c =
    let is = rw c.from.ensures at c.index-rules-from.is in
    let told = told_so c.args.rules.now c.args.number c.index-rules-from.result c.requires.some c.requires.most is in
    let front : c.as_bytes.result.now ≡ codes "rule " ++ (decimal c.args.number ++ codes ": ") = c.as_bytes.ensures.value
    ∙ c.in_ok-front.ensures in
    let text : c.deref.result.now ≡ rule_text (rule_value c.index-rules-from.result) = c.deref.ensures.value
    ∙ c.in_ok-write_rule.ensures in
    let whole = ap (λ (x : List ℕ). x ++ c.deref.result.now) front
    ∙ ap (λ (x : List ℕ). (codes "rule " ++ (decimal c.args.number ++ codes ": ")) ++ x) text ∙ told in
    IfOk-weaker c.put-2.result _ _ (λ _ h. both_added c.args.line.now.items c.put.new.line.items c.put-2.new.line.items _ _ _
    c.in_ok-put.ensures h whole) c.put-2.ensures
