use Rattle.names.specs.laws.PathLaws.{components_joined}
use Rattle.names.proofs.laws.components_of_joined.Goals as goal

pub returns : goal.returns
returns c = components_joined
