-- Sets of permissions in numbers.
use Rattle.std.specs.Prelude.{ℕ, ◌/◌, ◌%◌, ◌^◌, ◌==◌, nat_lt, Option, Some, None, if◌then◌else◌, sum_by}
use Rattle.names.specs.Permissions.{all_permissions, has, index, permission_count, set_of}
use Rattle.names.specs.declared.permissions.Permission.{Permission}
use Rattle.names.specs.declared.permissions.Perms.{Perms}

-- what a permission adds to the number of a set: its own number, if it is there
abbrev pub number_in : Perms → Permission → ℕ
number_in s p = if has s p then 2 ^ index p else 0

-- the sum of the numbers of a set's permissions: r 1, w 2, l 4, k 8, m 16, a 32
abbrev pub number_of : Perms → ℕ
number_of s = sum_by (number_in s) all_permissions

-- the set whose permissions' numbers sum to a number; none for 0, and for what is no such sum
abbrev pub set_of_number : ℕ → Option Perms
set_of_number n = if n == 0 then None else if nat_lt n (2 ^ permission_count) then Some (set_of (λ p. n / 2 ^ index p % 2 == 1)) else None
