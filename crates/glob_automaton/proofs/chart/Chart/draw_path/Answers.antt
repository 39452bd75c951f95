-- The rule's end is pushed, and its items are drawn before it.
use Rattle.std.proofs.Common.{◌≡◌, ◌++◌, ◌∷◌, [], length, ap, ◌∙◌, refl, subst}
use Rattle.rule_profile.specs.Profile.{rule_value, pattern}
use Rattle.names.specs.declared.kind.RuleKind.TheVariants.{Allow}
use Rattle.glob_automaton.specs.inner.Drawings.{IsDrawn}
use Rattle.glob_automaton.specs.inner.Leaves.{reading}
use Rattle.glob_automaton.proofs.ChartRules.{chart_more}
use Rattle.glob_automaton.proofs.chart.Chart.draw_path.Goals as goal

pub returns : goal.returns
returns c rules chart =
    let here : c.len-end.result ≡ length c.args.self.now.places.items = c.len-end.ensures ∙ c.args.self.now.places.ok.0 in
    let drawn : IsDrawn c.entry.new.self c.draw_items.new.self (pattern (rule_value c.args.rule.now)) c.in_ok-last.last
    c.in_ok-start.start =
    subst (λ z. IsDrawn c.entry.new.self c.draw_items.new.self z c.in_ok-last.last c.in_ok-start.start) c.items.ensures.pattern
    c.in_ok-start.ensures in
    chart_more c.args.self.now c.entry.new.self c.draw_items.new.self c.push-2.new.self rules (reading (rule_value c.args.rule.now))
    (record { end = c.len-end.result; start = c.in_ok-start.start; kind = Allow; perms = c.with.result }) c.in_ok-last.last chart
    (ap (λ z. z.items) c.entry.ensures.places ∙ c.in_ok-push.ensures.items) here refl c.with.ensures
    c.in_ok-last.ensures.number c.in_ok-last.ensures.entries c.entry.ensures.classes drawn
    (c.in_ok-push-2.ensures.items
    ∙ ap (λ z. z ++ record { end = c.len-end.result; start = c.in_ok-start.start; kind = Allow; perms = c.with.result } ∷ [])
    (drawn.rules_stay ∙ ap (λ z. z.items) c.entry.ensures.rules))
