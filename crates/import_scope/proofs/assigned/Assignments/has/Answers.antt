use Rattle.std.proofs.Common.{ap, ◌∙◌}
use Rattle.std.specs.Prelude.{is_some}
use Rattle.import_scope.proofs.VariablePlaces.{place_if_declared}
use Rattle.import_scope.proofs.assigned.Assignments.has.Goals as goal

pub returns : goal.returns
returns c = c.is_some.ensures ∙ ap is_some c.place.ensures ∙ place_if_declared c.args.self.now c.args.name.now
