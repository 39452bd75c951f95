-- The place was pushed, and its entry.
use Rattle.std.proofs.Common.{◌≡◌, ◌++◌, ◌∷◌, [], length, ap, ◌∙◌}
use Rattle.rule_globs.specs.Glob.{ByteSet, one}
use Rattle.glob_automaton.specs.inner.Drawings.{IsDrawn, IsKnown, TakesSet}
use Rattle.glob_automaton.specs.declared.chart.Entry.TheVariants as entry
use Rattle.glob_automaton.proofs.DrawingLaws.{drawn_one, if_ok}
use Rattle.glob_automaton.proofs.chart.Chart.draw_one.Goals as goal

pub returns-clause-drawn : goal.returns-clause-drawn
returns-clause-drawn c =
    let here : c.len-place.result ≡ length c.args.self.now.places.items = c.len-place.ensures ∙ c.args.self.now.places.ok.0 in
    if_ok c.entry.result
    (λ number. number ≡ length c.args.self.now.entries.items)
    (λ _. c.entry.new.self.entries.items ≡ c.args.self.now.entries.items ++ entry.Place c.len-place.result ∷ [])
    (λ start. (set : ByteSet) → IsKnown c.args.self.now c.args.takes → TakesSet c.args.self.now c.args.takes set →
    IsDrawn c.args.self.now c.entry.new.self (one set) c.args.behind start)
    (λ start number entries set known takes.
    drawn_one c.args.self.now c.entry.new.self c.args.takes set c.args.behind start c.requires known takes
    (ap (λ z. z.items) c.entry.ensures.places ∙ c.in_ok-push.ensures.items) number
    (entries ∙ ap (λ z. c.args.self.now.entries.items ++ entry.Place z ∷ []) here) c.entry.ensures.classes c.entry.ensures.rules)
    c.entry.ensures.number c.entry.ensures.entries
