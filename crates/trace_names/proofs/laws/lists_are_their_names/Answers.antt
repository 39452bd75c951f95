use Rattle.trace_names.proofs.Joined.{joined_again, names_endless, parted_again}
use Rattle.trace_names.proofs.laws.lists_are_their_names.Goals as goal

pub returns-clause-joined : goal.returns-clause-joined
returns-clause-joined c end list = joined_again end list

pub returns-clause-endless : goal.returns-clause-endless
returns-clause-endless c end list = names_endless end list

pub returns-clause-parted : goal.returns-clause-parted
returns-clause-parted c end names endless = parted_again end names endless
