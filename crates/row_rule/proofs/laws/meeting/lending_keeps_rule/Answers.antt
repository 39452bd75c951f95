use Rattle.row_rule.specs.laws.Meetings.{lends}
use Rattle.row_rule.proofs.laws.meeting.lending_keeps_rule.Goals as goal

pub returns : goal.returns
returns g c = λ capacity. lends (g.E.Encoding.encodes capacity)
