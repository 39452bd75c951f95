-- What is left of the paths.
use Rattle.std.proofs.Common.{◌≡◌}
use Rattle.std.specs.List.{list_all}
use Rattle.import_profile.specs.Settled.{is_settled}
use Rattle.import_profile.proofs.settled.are_settled.Given as goal

abbrev pub invariant-loop-path : goal.invariant-loop-path
invariant-loop-path l = list_all is_settled l.path-iterator.rest.items ≡ list_all is_settled l.fn.paths.items
