use Rattle.row_rule.specs.laws.Meetings.{takes_in}
use Rattle.row_rule.proofs.laws.meeting.taking_in_keeps_rule.Goals as goal

pub returns : goal.returns
returns g c = λ capacity. takes_in (g.E.Encoding.encodes capacity)
