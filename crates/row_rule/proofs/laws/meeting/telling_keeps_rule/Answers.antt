use Rattle.row_rule.specs.laws.Meetings.{is_told, met_begins}
use Rattle.row_rule.proofs.laws.meeting.telling_keeps_rule.Goals as goal

pub returns-clause-kept : goal.returns-clause-kept
returns-clause-kept g c = λ capacity. is_told (g.E.Encoding.encodes capacity)

pub returns-clause-told : goal.returns-clause-told
returns-clause-told g c = λ capacity. met_begins (g.E.Encoding.encodes capacity)
