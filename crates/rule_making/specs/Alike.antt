-- Whether AppArmor (3.0.8) reads the text of a path as this language does, where both read it: what is found out byte by byte.
use Rattle.std.specs.Prelude.{ℕ, List, [], ◌∷◌, Option, Some, None, Bool, true, false, not, ◌&&◌, ◌||◌, ◌==◌, if◌then◌else◌}
use Rattle.names.specs.Ascii as ascii
use Rattle.rule_making.specs.declared.alike.Spot.{Spot}
use Rattle.rule_making.specs.declared.alike.Spot.TheVariants.{Outside, BehindStars, Opened, Negated, Closed, Member, Dash}

-- ] 93, [ 91, * 42, / 47
abbrev pub outside_at : Bool → ℕ → Option Spot
outside_at escaped b =
    if escaped then Some Outside
    else if b == ascii.close_bracket then None
    else if b == ascii.open_bracket then Some Opened
    else if b == ascii.asterisk then Some BehindStars
    else Some Outside

-- A byte of a class that is none of its marks: *, ? and a dash after a backslash are read in two ways.
abbrev pub member_at : Spot → Bool → ℕ → Option Spot
member_at behind escaped b =
    if escaped then (if b == ascii.dash then None else Some behind)
    else if (b == ascii.asterisk || b == ascii.question_mark) || b == ascii.dash then None
    else Some behind

-- The first byte of a class: a dash stands for itself, after a backslash too.
abbrev pub first_at : Bool → ℕ → Option Spot
first_at escaped b =
    if not escaped && b == ascii.close_bracket then Some Outside
    else if b == ascii.dash then Some Closed
    else member_at Member escaped b

-- What follows one more byte, and None where the two readings differ. A backslash is no byte of its own. ^ is 94.
abbrev pub next_spot : Spot → Bool → ℕ → Option Spot
next_spot Outside escaped b = outside_at escaped b
next_spot BehindStars escaped b = if escaped && b == ascii.slash then None else outside_at escaped b
next_spot Opened escaped b =
    if b == ascii.caret then (if escaped then None else Some Negated) else first_at escaped b
next_spot Negated escaped b = first_at escaped b
next_spot Closed escaped b = if not escaped && b == ascii.close_bracket then Some Outside else member_at Member escaped b
next_spot Member escaped b =
    if not escaped && b == ascii.close_bracket then Some Outside
    else if not escaped && b == ascii.dash then Some Dash
    else member_at Member escaped b
next_spot Dash escaped b = if not escaped && b == ascii.close_bracket then None else member_at Closed escaped b

-- The text from a spot on; the flag says that a backslash is before it.
abbrev pub alike_from : Spot → Bool → List ℕ → Bool
alike_from spot escaped [] = true
alike_from spot escaped (b ∷ bytes) =
    if not escaped && b == ascii.backslash then alike_from spot true bytes
    else elim (next_spot spot escaped b) [ None ↦ false | Some next ↦ alike_from next false bytes ]

abbrev pub is_read_alike : List ℕ → Bool
is_read_alike text = alike_from Outside false text
