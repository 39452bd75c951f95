use Rattle.std.proofs.Common.{refl}
use Rattle.std.proofs.lemmas.Slice.Eq.{slice_eq-Decides}
use Rattle.glob_automaton.proofs.EqualCharts.{class_decided, entry_decided, not_different, place_decided, rule_decided}
use Rattle.glob_automaton.proofs.chart.Chart.is_same.Goals as goal

pub returns-then-eq : goal.returns-then-eq
returns-then-eq c t =
    let one = c.args.self.now in
    let other = c.args.other.now in
    record {
      places = (slice_eq-Decides place_decided one.places.items other.places.items _ refl).0
          (not_different c.ne.result _ c.ne.ensures c.if-ne.false);
      entries = (slice_eq-Decides entry_decided one.entries.items other.entries.items _ refl).0
          (not_different c.ne-else-ne.result _ c.ne-else-ne.ensures c.if-ne-2.false);
      classes = (slice_eq-Decides class_decided one.classes.items other.classes.items c.eq.result c.eq.ensures).0 c.if-eq.true;
      rules = (slice_eq-Decides rule_decided one.rules.items other.rules.items c.eq-then-eq.result c.eq-then-eq.ensures).0 t;
    }
