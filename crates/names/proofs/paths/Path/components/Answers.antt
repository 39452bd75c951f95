use Rattle.names.specs.laws.PathLaws.{path_components_few}
use Rattle.names.proofs.paths.Path.components.Goals as goal

pub returns-clause-few : goal.returns-clause-few
returns-clause-few c = path_components_few c.self.inside.bytes.now c.self.invariant
