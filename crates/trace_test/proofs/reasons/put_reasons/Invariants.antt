-- What is added so far: the reasons of the permissions that are asked, among those that the loop has passed.
use Rattle.std.proofs.Common.{◌≡◌, ◌++◌, take, filter}
use Rattle.std.specs.List.{flat_map}
use Rattle.names.specs.Permissions.{all_permissions, has}
use Rattle.rule_profile.specs.Profile.{profile_value}
use Rattle.trace_test.specs.Questions.{reason_part}
use Rattle.trace_test.proofs.reasons.put_reasons.Given as goal

abbrev pub invariant-loop-permission : goal.invariant-loop-permission
invariant-loop-permission l =
    l.line.items ≡ l.fn.line.items ++ flat_map (reason_part (profile_value l.profile).rules l.name)
    (filter (has l.ask) (take l.permission-index all_permissions))
