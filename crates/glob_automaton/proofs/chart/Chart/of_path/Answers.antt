use Rattle.std.proofs.Common.{◌≡◌, refl, ℕ, List, [], ◌∷◌, length}
use Rattle.rule_profile.specs.Profile.{RuleValue, rule_value}
use Rattle.glob_automaton.specs.declared.chart.Chart.{Chart}
use Rattle.glob_automaton.specs.declared.chart.ChartRule.{ChartRule}
use Rattle.glob_automaton.specs.inner.Drawings.{IsChartOf, HasRules}
use Rattle.glob_automaton.specs.inner.Leaves.{reading}
use Rattle.glob_automaton.proofs.chart.Chart.of_path.Goals as goal

one_drawn : (chart : Chart) (at : ℕ) (rule : RuleValue) (ds : List ChartRule) → HasRules chart at (rule ∷ []) ds → length ds ≡ 1
one_drawn chart at rule [] h = absurd h
one_drawn chart at rule (d ∷ []) h = refl
one_drawn chart at rule (d ∷ e ∷ ds) h = absurd h.2

pub returns-clause-chart : goal.returns-clause-chart
returns-clause-chart c = c.in_ok-draw_path.ensures [] c.blank-chart.ensures

pub returns-clause-one : goal.returns-clause-one
returns-clause-one c =
    let is : IsChartOf (reading (rule_value c.args.rule.now) ∷ []) c.draw_path.new.self = returns-clause-chart c in
    one_drawn c.draw_path.new.self 0 (reading (rule_value c.args.rule.now)) c.draw_path.new.self.rules.items is.drawn
