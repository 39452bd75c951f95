use Rattle.rule_globs.proofs.FollowLaws.{live-at_first, live-after_byte}
use Rattle.rule_globs.proofs.laws.live_places_go_on.Goals as goal

pub returns-clause-begin : goal.returns-clause-begin
returns-clause-begin c = live-at_first

pub returns-clause-step : goal.returns-clause-step
returns-clause-step c = live-after_byte
