-- What is written so far: the letters of the set's permissions among those that the loop has passed.
use Rattle.std.proofs.Common.{map, filter, take}
use Rattle.std.specs.Fmt.{HasWritten, IsPlainFormatter}
use Rattle.names.specs.Permissions.{letter, has, all_permissions}
use Rattle.names.proofs.permissions.PermsDisplay.fmt.Given as goal

abbrev pub invariant-loop-permission : goal.invariant-loop-permission
invariant-loop-permission g l =
    IsPlainFormatter l.initial.f
    → HasWritten g.W.Write.write_str_gives l.initial.f (map letter (filter (has l.self) (take l.permission-index all_permissions))) l.f
