-- What is added so far: the letters of the set's permissions among those that the loop has passed.
use Rattle.std.proofs.Common.{◌≡◌, ◌++◌, map, filter, take}
use Rattle.names.specs.Permissions.{letter, has, all_permissions}
use Rattle.rule_writer.proofs.writer.put_perms.Given as goal

abbrev pub invariant-loop-permission : goal.invariant-loop-permission
invariant-loop-permission l =
    l.text.items ≡ l.initial.text.items ++ map letter (filter (has l.perms) (take l.permission-index all_permissions))
