use Rattle.rule_judge.proofs.LinkLaws.{fine}
use Rattle.rule_judge.proofs.links.fine_links_widen_nothing.Goals as goal

pub returns : goal.returns
returns c = fine
