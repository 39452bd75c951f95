use Rattle.names.specs.laws.Records.{hits_made, same_record}
use Rattle.names.proofs.laws.records_are_their_hits.Goals as goal

pub returns-clause-same : goal.returns-clause-same
returns-clause-same c = same_record c.permissions_are_numbered.ensures.only

pub returns-clause-made : goal.returns-clause-made
returns-clause-made c = hits_made c.permissions_are_numbered.ensures.below c.permissions_are_numbered.ensures.there
