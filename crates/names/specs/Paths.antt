-- Paths, the tests that a path must pass, and the components that a walk takes (path_resolution(7)).
use Rattle.std.specs.Prelude.{◌≡◌, ℕ, ◌<◌, ◌≤◌, ◌≢◌, ◌-◌, Bool, List, [], ◌∷◌, ◌++◌, length, filter, nat_lt, not, ◌==◌, slice_index, All}
use Rattle.std.specs.Prelude.{Option, Some, None, if◌then◌else◌}
use Rattle.std.specs.List.{list_any, slice_split}
use Rattle.names.specs.Ascii as ascii
use Rattle.names.specs.Limits.{longest_component, longest_path}
use Rattle.names.specs.declared.errors.Errno.{Errno}
use Rattle.names.specs.declared.errors.Errno.TheVariants.{ENOENT, EINVAL, ENAMETOOLONG}

-- the byte `/`
abbrev pub is_slash : ℕ → Bool
is_slash b = b == ascii.slash

abbrev pub is_empty : List ℕ → Bool
is_empty bytes = length bytes == 0

abbrev pub begins_with_slash : List ℕ → Bool
begins_with_slash bytes = is_slash (slice_index bytes 0)

abbrev pub ends_with_slash : List ℕ → Bool
ends_with_slash bytes = is_slash (slice_index bytes (length bytes - 1))

-- `.`, where the text ends with a slash
abbrev pub closing_component : List ℕ → List (List ℕ)
closing_component bytes = if ends_with_slash bytes then (ascii.dot ∷ []) ∷ [] else []

-- the non-empty parts between slashes: slashes that follow one another count as one, and those at the end for nothing
abbrev pub filled_parts : List ℕ → List (List ℕ)
filled_parts bytes = filter (λ part. not (is_empty part)) (slice_split is_slash bytes)

-- the non-empty parts, and then `.` where the text ends with a slash
abbrev pub components : List ℕ → List (List ℕ)
components bytes = filled_parts bytes ++ closing_component bytes

-- some component is longer than limits.h's NAME_MAX
abbrev pub has_long_component : List ℕ → Bool
has_long_component bytes = list_any (λ component. nat_lt longest_component (length component)) (components bytes)

-- why the text is no path: the first of these tests that holds
abbrev pub path_fault : List ℕ → Option Errno
path_fault bytes =
    if is_empty bytes then Some ENOENT
    else if not (begins_with_slash bytes) then Some EINVAL
    else if list_any (λ b. b == 0) bytes then Some EINVAL
    -- limits.h's PATH_MAX counts the byte 0 that closes a path in C
    else if nat_lt longest_path (length bytes) then Some ENAMETOOLONG
    else if has_long_component bytes then Some ENAMETOOLONG
    else None

-- what rules judge: a list of bytes that begins with a slash, none of them 0
abbrev pub IsName : List ℕ → Type 0
IsName bytes = (slice_index bytes 0 ≡ ascii.slash) × All (λ b. (0 < b) × (b < 256)) bytes

-- text between slashes
abbrev pub IsPart : List ℕ → Type 0
IsPart part = (0 < length part) × All (λ b. b ≢ ascii.slash) part

-- what a directory can have an entry of, or `.`
pub record IsPathComponent (component : List ℕ) : Type 0 where
  pub part : IsPart component
  pub short : length component ≤ longest_component
  pub bytes : All (λ b. b ≢ 0) component
