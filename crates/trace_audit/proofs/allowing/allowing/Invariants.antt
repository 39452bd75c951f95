-- The numbers so far, and the permissions that are left, lead to all of them.
use Rattle.std.proofs.Common.{◌≡◌, drop}
use Rattle.names.specs.Permissions.{all_permissions}
use Rattle.rule_profile.specs.Profile.{profile_value}
use Rattle.trace_audit.specs.Answers.{allowing, allowing_after}
use Rattle.trace_audit.proofs.allowing.allowing.Given as goal

abbrev pub invariant-loop-permission : goal.invariant-loop-permission
invariant-loop-permission l =
    allowing_after (profile_value l.profile).rules l.name l.ask l.numbers.items (drop l.permission-index all_permissions)
    ≡ allowing (profile_value l.profile).rules l.name l.ask
