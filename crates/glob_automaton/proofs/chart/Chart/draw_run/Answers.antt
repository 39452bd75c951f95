-- The entry was pushed, and the place before it.
use Rattle.std.proofs.Common.{◌≡◌, ◌++◌, ◌∷◌, [], length, ap, ◌∙◌}
use Rattle.glob_automaton.specs.declared.chart.Entry.TheVariants as entry
use Rattle.glob_automaton.proofs.DrawingLaws.{drawn_run}
use Rattle.glob_automaton.proofs.chart.Chart.draw_run.Goals as goal

pub returns-clause-drawn : goal.returns-clause-drawn
returns-clause-drawn c set known takes =
    let here : c.len-place.result ≡ length c.args.self.now.places.items = c.len-place.ensures ∙ c.args.self.now.places.ok.0 in
    drawn_run c.args.self.now
    (record {
      places = c.push.new.self;
      entries = c.entry.new.self.entries;
      classes = c.entry.new.self.classes;
      rules =
          c.entry.new.self.rules;
    }) c.args.takes set c.args.behind c.in_ok-entry.entry c.requires known takes
    (c.in_ok-push.ensures.items ∙ ap (λ z. z.items ++ record { takes = c.args.takes; behind = c.in_ok-entry.entry } ∷ [])
    c.entry.ensures.places)
    c.in_ok-entry.ensures.number (c.in_ok-entry.ensures.entries ∙ ap (λ z. c.args.self.now.entries.items ++ entry.Run z c.args.behind ∷ [])
    here) c.entry.ensures.classes c.entry.ensures.rules
