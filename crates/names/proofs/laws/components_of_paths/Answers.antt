use Rattle.names.specs.laws.PathLaws.{path_components}
use Rattle.names.proofs.laws.components_of_paths.Goals as goal

pub returns : goal.returns
returns c = path_components
