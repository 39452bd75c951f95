-- Each byte is recorded, and then the place that takes the recorded class is drawn.
use Rattle.std.proofs.Common.{◌∙◌, refl, arith}
use Rattle.std.proofs.lemmas.List.{length-set}
use Rattle.rule_globs.specs.Glob.{fits, class}
use Rattle.glob_automaton.proofs.DrawingLaws.{told_more, drawn_class}
use Rattle.glob_automaton.proofs.chart.Chart.draw_class.Goals as goal

pub loop-byte-preserved : goal.loop-byte-preserved
loop-byte-preserved c = (
  length-set c.loop-byte.taken c.loop-byte.byte c.takes.result ∙ c.loop-byte.invariant.0,
  told_more (λ k. fits (class c.args.class.now.negated c.args.class.now.ranges) k) c.loop-byte.taken c.loop-byte.byte c.takes.result
      (omega (arith, c.loop-byte-test.true, c.loop-byte.invariant.0)) c.loop-byte.invariant.1 c.takes.ensures,
)

pub returns : goal.returns
returns c =
    drawn_class c.args.self.now (record {
      places = c.args.self.now.places;
      entries = c.args.self.now.entries;
      classes = c.push.new.self;
      rules = c.args.self.now.rules;
    })
    c.draw_one.new.self c.draw_one.result (class c.args.class.now.negated c.args.class.now.ranges) c.loop-byte.taken
    c.len-number.result c.args.behind (c.len-number.ensures ∙ c.args.self.now.classes.ok.0) c.in_ok-push.ensures.items refl refl refl
    (λ k lt. c.loop-byte.invariant.1 k (omega (arith, lt, c.loop-byte-test.false))) c.draw_one.ensures.drawn
