use Rattle.names.proofs.EqualRecords.{equal_one}
use Rattle.names.proofs.laws.equal_records_are_one.Goals as goal

pub returns : goal.returns
returns c = equal_one c.permissions_are_numbered.ensures.only
