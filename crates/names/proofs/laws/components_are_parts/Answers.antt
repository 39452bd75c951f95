use Rattle.names.specs.laws.PathLaws.{components_parts}
use Rattle.names.proofs.laws.components_are_parts.Goals as goal

pub returns : goal.returns
returns c = components_parts
