use Rattle.directory_tree.proofs.Links.{resolve_more}
use Rattle.directory_tree.proofs.laws.more_links_change_no_answer.Goals as goal

pub returns : goal.returns
returns c = resolve_more
