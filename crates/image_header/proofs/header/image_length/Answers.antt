use Rattle.image_header.proofs.Fronts.{fault_of_front, length_of_front}
use Rattle.image_header.proofs.header.image_length.Goals as goal

pub returns-in-None-clause-length : goal.returns-in-None-clause-length
returns-in-None-clause-length c =
    length_of_front c.args.front.now c.requires.header c.version_of.result c.length_by_counts.result c.version_of.ensures
    c.in-None.ensures c.length_by_counts.ensures

pub returns-in-Some-clause-fault : goal.returns-in-Some-clause-fault
returns-in-Some-clause-fault c =
    fault_of_front c.args.front.now c.requires.header c.in-Some.fault c.in-Some.ensures.0 c.in-Some.ensures.1
