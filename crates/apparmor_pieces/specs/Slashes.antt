-- A path's text with one slash for each run of slashes, wherever it is, as AppArmor's parser leaves it. Only exactly two
-- slashes at the text's start stay two.
use Rattle.std.specs.Prelude.{Bool, true, false, not, ◌&&◌, if◌then◌else◌, [], ◌∷◌}
use Rattle.names.specs.Ascii as ascii
use Rattle.names.specs.Paths.{is_slash}
use Rattle.apparmor_pieces.specs.Pieces.{Text, begins}

-- the bytes with one slash for each run, by whether a slash is directly before them
abbrev pub runs_joined : Bool → Text → Text
runs_joined behind [] = []
runs_joined behind (b ∷ bytes) = if behind && is_slash b then runs_joined true bytes else b ∷ runs_joined (is_slash b) bytes

-- the text begins with exactly two slashes
abbrev pub begins_with_two : Text → Bool
begins_with_two [] = false
begins_with_two (a ∷ []) = false
begins_with_two (a ∷ b ∷ bytes) = is_slash a && is_slash b && not (begins is_slash bytes)

abbrev pub one_slash : Text → Text
one_slash text = if begins_with_two text then ascii.slash ∷ runs_joined false text else runs_joined false text
