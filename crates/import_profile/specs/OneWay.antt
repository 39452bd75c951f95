-- Whether AppArmor and this language read the text of a path in one way: they also differ where AppArmor may put a variable in
-- place (apparmor.d(5), "Variables").
use Rattle.std.specs.Prelude.{ℕ, List, [], ◌∷◌, Bool, false, not, ◌&&◌, ◌||◌, ◌==◌}
use Rattle.names.specs.Ascii as ascii
use Rattle.rule_making.specs.Alike.{is_read_alike}

-- The flags say that a backslash that takes the next byte is directly before these bytes, and an @ that no backslash
-- takes. { is 123.
abbrev pub opens_from : Bool → Bool → List ℕ → Bool
opens_from escaped at [] = false
opens_from escaped at (b ∷ bytes) =
    (at && b == ascii.open_brace) || opens_from (not escaped && b == ascii.backslash) (not escaped && b == ascii.at_sign) bytes

-- somewhere, in a class too, is an @ that no backslash takes, directly followed by {
abbrev pub opens_variable : List ℕ → Bool
opens_variable text = opens_from false false text

abbrev pub is_read_one_way : List ℕ → Bool
is_read_one_way text = is_read_alike text && not (opens_variable text)
