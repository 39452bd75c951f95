-- What is asked, by the test that a set is empty.
use Rattle.std.proofs.Common.{◌≡◌, false}
use Rattle.std.specs.List.{list_any}
use Rattle.std.proofs.lemmas.List.Folds.{list_any_none}
use Rattle.names.specs.declared.permissions.Permission.{Permission}
use Rattle.names.specs.declared.permissions.Perms.{Perms}
use Rattle.names.specs.Permissions.{has, all_permissions}

pub none_of : (ask : Perms) → ((p : Permission) → has ask p ≡ false) → list_any (has ask) all_permissions ≡ false
none_of ask h = list_any_none (has ask) all_permissions (λ k d below. h _)
