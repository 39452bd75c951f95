use Rattle.directory_tree.proofs.Lives.{gone_without_entry, kept_or_gone, new_is_next}
use Rattle.directory_tree.proofs.laws.nodes.nodes_live_by_their_entries.Goals as goal

pub returns-clause-gone : goal.returns-clause-gone
returns-clause-gone c = λ t n well. gone_without_entry t well n

pub returns-clause-kept : goal.returns-clause-kept
returns-clause-kept c = kept_or_gone

pub returns-clause-new : goal.returns-clause-new
returns-clause-new c = new_is_next
