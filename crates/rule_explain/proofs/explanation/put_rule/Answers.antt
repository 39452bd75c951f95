use Rattle.std.proofs.Common.{◌≡◌, ◌++◌, ℕ, List, ap, ◌∙◌, append_assoc}
use Rattle.std.specs.Prelude.{codes, decimal}
use Rattle.std.proofs.lemmas.Result.{IfOk-weaker}
use Rattle.rule_profile.specs.declared.profile.Span.{Span}
use Rattle.rule_profile.specs.Profile.{rule_value}
use Rattle.rule_profile.specs.RuleSpans.{rule_span}
use Rattle.rule_writer.specs.Canonical.{rule_text}
use Rattle.rule_explain.specs.declared.place.Place.{Place}
use Rattle.rule_explain.specs.Places.{place_at}
use Rattle.rule_explain.proofs.ToldLaws.{told_so}
use Rattle.rule_explain.proofs.explanation.put_rule.Goals as goal

-- two parts were added
added : (old middle new first second told : List ℕ) → middle ≡ old ++ first → new ≡ middle ++ second → first ++ second ≡ told →
    new ≡ old ++ told
added old middle new first second told e1 e2 e3 = e2 ∙ ap (λ (x : List ℕ). x ++ second) e1 ∙ append_assoc old first second
    ∙ ap (λ (x : List ℕ). old ++ x) e3

-- what comes before a rule's text
abbrev front_text : ℕ → ℕ → List ℕ
front_text n line = codes "rule " ++ (decimal n ++ (codes ", line " ++ (decimal line ++ codes ": ")))

pub returns : goal.returns
returns c =
    let is = rw c.from.ensures at c.index-rules-from.is in
    let told = told_so c.args.text.now c.args.rules.now c.args.number c.index-rules-from.result c.requires.some c.requires.most is in
    let line : c.place_at-place.result.line ≡ (place_at c.args.text.now (rule_span c.index-rules-from.result).start).line =
    ap (λ (place : Place). place.line) c.place_at-place.ensures ∙ ap (λ (span : Span). (place_at c.args.text.now span.start).line)
    c.span.ensures in
    let front : c.as_bytes.result.now ≡ front_text c.args.number
    (place_at c.args.text.now (rule_span c.index-rules-from.result).start).line =
    c.as_bytes.ensures.value ∙ c.in_ok-front.ensures ∙ ap (front_text c.args.number) line in
    let text : c.deref.result.now ≡ rule_text (rule_value c.index-rules-from.result) = c.deref.ensures.value
    ∙ c.in_ok-write_rule.ensures in
    let whole = ap (λ (x : List ℕ). x ++ c.deref.result.now) front
    ∙ ap (λ (x : List ℕ). front_text c.args.number (place_at c.args.text.now (rule_span c.index-rules-from.result).start).line ++ x)
    text ∙ told in
    IfOk-weaker c.put-2.result _ _ (λ _ h. added c.args.lines.now.items c.put.new.lines.items c.put-2.new.lines.items _ _ _
    c.in_ok-put.ensures h whole) c.put-2.ensures
