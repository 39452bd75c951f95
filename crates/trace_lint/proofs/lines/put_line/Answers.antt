-- The pieces of a line.
use Rattle.std.proofs.Common.{◌∙◌, ◌++◌, ℕ, List, ap}
use Rattle.std.specs.Prelude.{codes}
use Rattle.std.proofs.lemmas.Result.{on_ok_weaker}
use Rattle.rule_explain.specs.Explanations.{rule_place, text_of_rule}
use Rattle.rule_profile.specs.Profile.{profile_value}
use Rattle.rule_profile.specs.RuleSpans.{profile_spans}
use Rattle.trace_lint.specs.Lines.{kind_of, letter_text, said, why}
use Rattle.trace_lint.proofs.Pieces.{piece}
use Rattle.trace_lint.proofs.lines.put_line.Goals as goal

pub returns : goal.returns
returns c =
    let text = c.args.linted.now.text.now in
    let rules = (profile_value c.args.linted.now.profile.now).rules in
    let spans = profile_spans c.args.linted.now.profile.now in
    let base = c.args.line.now.items in
    let n = c.args.finding.part.rule in
    let numbers = c.args.finding.stand_ins.now in
    let place : List ℕ = rule_place text spans n in
    let colon : List ℕ = place ++ codes ": " in
    let of : List ℕ = colon ++ letter_text c.args.finding.part.letter in
    let saying : List ℕ = of ++ said (kind_of rules n) numbers in
    let rule : List ℕ = saying ++ text_of_rule rules n in
    let reason : List ℕ = rule ++ why text spans (kind_of rules n) numbers c.args.finding.idle in
    let one = piece base place (codes ": ") c.put_place.new.line.items c.put.new.line.items c.in_ok-put_place.ensures
    c.in_ok-put.ensures in
    let two = piece base colon (letter_text c.args.finding.part.letter) c.put.new.line.items c.put_letter.new.line.items one
    c.in_ok-put_letter.ensures in
    let three = piece base of (said (kind_of rules n) numbers) c.put_letter.new.line.items c.put-2.new.line.items two
    (c.in_ok-put-2.ensures ∙ ap (λ z. c.put_letter.new.line.items ++ z)
    (c.said.ensures ∙ ap (λ z. said z numbers) c.kind-kind.ensures)) in
    let four = piece base saying (text_of_rule rules n) c.put-2.new.line.items c.put_rule.new.line.items three
    c.in_ok-put_rule.ensures in
    let five = piece base rule (why text spans (kind_of rules n) numbers c.args.finding.idle) c.put_rule.new.line.items
    c.put_why.new.line.items four
    (c.in_ok-put_why.ensures ∙ ap (λ z. c.put_rule.new.line.items ++ why text spans z numbers c.args.finding.idle) c.kind-kind.ensures) in
    on_ok_weaker c.put-3.result
    (piece base reason (codes "\n") c.put_why.new.line.items c.put-3.new.line.items five) c.put-3.ensures
