-- The place of each permission among all of them.
use Rattle.std.proofs.Common.{◌≡◌, ℕ, ◌<◌, arith, get_or, rules}
use Rattle.names.specs.declared.permissions.Permission.{Permission}
use Rattle.names.specs.Permissions.{all_permissions, index, permission_count}

-- each place is within the list
pub place_below : (p : Permission) → index p < permission_count
place_below = search (rules, arith)

-- at its place is the permission itself
pub stands_there : (p d : Permission) → get_or all_permissions (index p) d ≡ p
stands_there = search (rules, arith)

-- the permission at a place has that place as its own
pub place_is : (i : ℕ) (d : Permission) → i < permission_count → index (get_or all_permissions i d) ≡ i
place_is = search (rules, arith)
