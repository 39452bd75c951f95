-- The sum over the permissions before the index.
use Rattle.std.proofs.Common.{◌≡◌, take}
use Rattle.std.specs.List.{sum_by}
use Rattle.names.specs.Permissions.{all_permissions}
use Rattle.image_judge.specs.Sets.{number_in}
use Rattle.image_judge.proofs.permissions.number_of.Given as goal

abbrev pub invariant-loop-permission : goal.invariant-loop-permission
invariant-loop-permission l = l.number ≡ sum_by (number_in l.perms) (take l.permission-index all_permissions)
