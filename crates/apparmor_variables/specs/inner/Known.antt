-- The lists that are made, as the lists that are known.
use Rattle.std.specs.Prelude.{ℕ, List, Option, None, slice_get, bytes_eq, option_and_then, unwrap_or, Bool, false, if◌then◌else◌}
use Rattle.std.specs.List.{position_from}
use Rattle.std.specs.Option.{option_map_or}
use Rattle.apparmor_pieces.specs.Pieces.{Text}
use Rattle.apparmor_variables.specs.Variables.{Variable, Known}

-- the place of the variable of that name among the declared ones
abbrev pub place_of : List Variable → Text → Option ℕ
place_of variables name = position_from (λ v. bytes_eq v.name name) 0 variables

-- the list at a place, if it is made
abbrev pub list_made : List (Option (List Text)) → ℕ → Option (List Text)
list_made lists place = option_and_then (λ list. list) (slice_get lists place)

-- the list of the variable of that name, if it is made. Each variable's list is at the variable's place
abbrev pub known_in : List Variable → List (Option (List Text)) → Known
known_in variables lists name = option_and_then (list_made lists) (place_of variables name)

-- whether the place is marked: the list there needs the first variable
abbrev pub is_marked : List Bool → ℕ → Bool
is_marked marks place = unwrap_or (slice_get marks place) false

-- the list at a place, if it is made and the place isn't marked
abbrev pub free_at : List (Option (List Text)) → List Bool → ℕ → Option (List Text)
free_at lists marks place = if is_marked marks place then None else list_made lists place

-- the list of the variable of that name, if it is made and doesn't need the first variable
abbrev pub free_in : List Variable → List (Option (List Text)) → List Bool → Known
free_in variables lists marks name = option_and_then (free_at lists marks) (place_of variables name)

-- whether the variable of that name is marked
abbrev pub is_named_marked : List Variable → List Bool → Text → Bool
is_named_marked variables marks name = option_map_or (is_marked marks) (place_of variables name) false
