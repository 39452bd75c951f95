use Rattle.row_index.specs.laws.Sizes.{index_is}
use Rattle.row_index.proofs.places.index_length.Goals as goal

pub returns-clause-length : goal.returns-clause-length
returns-clause-length c =
    let next = c.next_power_of_two.ensures in
    index_is c.args.capacity _ next.power.0 next.power.1 next.lower_bound next.upper_bound
