use Rattle.directory_tree.proofs.Presence.{stay_back, follow_back}
use Rattle.directory_tree.proofs.laws.name_leads_back.Goals as goal

pub returns-clause-stay : goal.returns-clause-stay
returns-clause-stay c = stay_back

pub returns-clause-no_link : goal.returns-clause-no_link
returns-clause-no_link c = follow_back
